use Rattle.std.proofs.Common.{◌∙◌}
use Rattle.ctt_problem.proofs.NameLemmas.{is_found}
use Rattle.ctt_problem.proofs.names.Names.contains.Goals as goal

pub returns : goal.returns
returns c = rw (← c.self.view_is) (c.contains.ensures ∙ is_found c.args.name.now c.self.inside.names.keys)
