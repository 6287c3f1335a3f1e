use Rattle.std.proofs.Common.{arith}
use Rattle.ctt_rules.proofs.TimetableLemmas.{few_lectures}
use Rattle.ctt_rules.proofs.soft.penalty.Goals as goal

pub capacity-requires-clause-few : goal.capacity-requires-clause-few
capacity-requires-clause-few c = few_lectures c.args.instance.now c.args.timetable.now c.requires c.limits_hold.ensures

pub returns-clause-bound : goal.returns-clause-bound
returns-clause-bound c = omega (arith, few_lectures c.args.instance.now c.args.timetable.now c.requires c.limits_hold.ensures)
