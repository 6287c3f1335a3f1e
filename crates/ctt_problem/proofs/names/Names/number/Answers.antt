use Rattle.std.proofs.Common.{◌∙◌}
use Rattle.ctt_problem.proofs.NameLemmas.{is_placed}
use Rattle.ctt_problem.proofs.names.Names.number.Goals as goal

pub returns-clause-number : goal.returns-clause-number
returns-clause-number c = rw (← c.self.view_is) (c.get_index_of.ensures.index ∙ is_placed c.args.name.now c.self.inside.names.keys)
