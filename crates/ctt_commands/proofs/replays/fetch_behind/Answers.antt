use Rattle.std.proofs.Common.{inl, inr, subst}
use Rattle.ctt_files.specs.Refusals.{IsOfStart}
use Rattle.ctt_files.specs.Texts.{Held}
use Rattle.ctt_files.proofs.Plain.{passed_on}
use Rattle.ctt_commands.specs.Refusals.{IsOfReplay}
use Rattle.ctt_commands.proofs.replays.fetch_behind.Goals as goal

pub returns-in_err-entries-clause-cause : goal.returns-in_err-entries-clause-cause
returns-in_err-entries-clause-cause g c =
    passed_on c.from_residual.result c.in_err-entries.field-0.0 (IsOfReplay c.args.journal c.args.start (g.F.Files.held c.args.files.now) c.args.instance.now) c.from_residual.ensures.1 (inl c.in_err-entries.ensures.cause)

pub returns-in-Err-clause-cause : goal.returns-in-Err-clause-cause
returns-in-Err-clause-cause g c =
    inr (c.in_ok-entries.entries.items, c.in_ok-entries.ensures.spelled, subst (λ (known : Held). IsOfStart c.args.start known c.args.instance.now c.in-Err.fault) c.in_ok-entries.ensures.kept c.in-Err.ensures.cause)
