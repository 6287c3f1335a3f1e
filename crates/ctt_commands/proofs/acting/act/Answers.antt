use Rattle.std.proofs.Common.{string_bytes, subst, sym}
use Rattle.std.proofs.lemmas.Result.{IfErr-weaker}
use Rattle.std.specs.Prelude.{IfErr}
use Rattle.ctt_commands.specs.Commands.{IsUnanswered}
use Rattle.ctt_commands.specs.declared.task.Task.{Task}
use Rattle.ctt_commands.proofs.PlaceLemmas.{unfound_in}
use Rattle.ctt_commands.proofs.acting.act.Goals as goal

pub returns-in-Where-clause-cause : goal.returns-in-Where-clause-cause
returns-in-Where-clause-cause g c =
    subst (λ (task : Task). IfErr c.find.result (IsUnanswered task)) (sym c.in-Where.is)
    (IfErr-weaker c.find.result _ _ (λ fault is. unfound_in _ (string_bytes c.in-Where.file) _ c.in-Where.text.items c.in-Where.number c.in-Where.byte fault c.deref-in-Where.ensures c.deref-in-Where-2.ensures.value is) c.find.ensures.cause)
