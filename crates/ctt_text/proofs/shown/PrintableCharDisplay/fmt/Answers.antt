use Rattle.std.proofs.Common.{◌∙◌, rules, sym}
use Rattle.ctt_text.proofs.PointLemmas.{control_is, other_is}
use Rattle.ctt_text.proofs.shown.PrintableCharDisplay.fmt.Goals as goal

pub returns-then-is_control-clause-writes : goal.returns-then-is_control-clause-writes
returns-then-is_control-clause-writes g c = rw (control_is c.args.self.now.0 (sym c.is_control.ensures ∙ c.if-is_control.true)) (search rules)

pub returns-else-is_control-clause-writes : goal.returns-else-is_control-clause-writes
returns-else-is_control-clause-writes g c = rw (other_is c.args.self.now.0 (sym c.is_control.ensures ∙ c.if-is_control.false)) (search rules)
