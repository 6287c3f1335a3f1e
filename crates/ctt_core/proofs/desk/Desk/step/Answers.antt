use Rattle.std.proofs.Common.{sym, subst}
use Rattle.ctt_core.specs.Desks.{DeskValue, SameDesk}
use Rattle.ctt_core.specs.Runs.{Legal}
use Rattle.ctt_core.proofs.DeskLemmas.{same_after, serial_after}
use Rattle.ctt_core.proofs.desk.Desk.step.Goals as goal

pub returns-clause-same : goal.returns-clause-same
returns-clause-same g c = subst (SameDesk c.args.self.now) (sym c.answer-answer.ensures.state) (same_after c.args.self.now c.args.event c.answer-answer.result)

pub returns-clause-legal : goal.returns-clause-legal
returns-clause-legal g c past stands = subst (λ (v : DeskValue). Legal v.problem v.opening v.journal) (sym c.answer-answer.ensures.state) (serial_after c.args.self.now past c.args.event c.answer-answer.result c.lawful.ensures.opening stands c.requires c.answer-answer.ensures.answer).legal
