use Rattle.std.proofs.Common.{◌∙◌, ap}
use Rattle.ctt_problem.proofs.NameLemmas.{texts, number_same, names_same}
use Rattle.ctt_problem.proofs.names.Names.insert.Goals as goal

pub returns-clause-number : goal.returns-clause-number
returns-clause-number c = rw (← c.self.view_is) (c.in_ok-number.ensures.index ∙ number_same c.in_ok-from_str.field-0 c.args.name.now c.in_ok-from_str.ensures.ok c.self.inside.names.keys)

pub returns-clause-names : goal.returns-clause-names
returns-clause-names c = rw (← c.self.view_is) (ap texts c.in_ok-number.ensures.keys ∙ names_same c.in_ok-from_str.field-0 c.args.name.now c.in_ok-from_str.ensures.ok c.self.inside.names.keys)
