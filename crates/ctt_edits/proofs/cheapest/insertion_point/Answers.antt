use Rattle.std.proofs.Common.{sym}
use Rattle.ctt_problem.proofs.ListLaws.{position_none}
use Rattle.ctt_edits.specs.Patterns.{is_cheaper}
use Rattle.ctt_edits.proofs.cheapest.insertion_point.Goals as goal

pub returns-in-None-clause-index : goal.returns-in-None-clause-index
returns-in-None-clause-index c = sym (position_none (is_cheaper c.args.new.now) c.args.list.now (sym c.in-None.ensures))
