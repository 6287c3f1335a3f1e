use Rattle.std.proofs.Common.{◌==◌, arith}
use Rattle.std.specs.List.{list_any}
use Rattle.ctt_problem.specs.Problem.{room_count}
use Rattle.ctt_problem.specs.declared.placed.Placed.{Placed}
use Rattle.ctt_rules.proofs.SumLemmas.{count_below_le}
use Rattle.ctt_rules.proofs.soft.surplus_rooms.Goals as goal

pub returns-clause-bound : goal.returns-clause-bound
returns-clause-bound c = omega (arith, count_below_le (λ r. list_any (λ (l : Placed). l.room == r) c.args.row.now) (room_count c.args.instance.now))
