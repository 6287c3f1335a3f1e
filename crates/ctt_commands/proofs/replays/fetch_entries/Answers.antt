use Rattle.std.proofs.Common.{◌≡◌, ◌∙◌, inl, refl, subst, sym}
use Rattle.std.specs.String.{string_bytes}
use Rattle.std.proofs.lemmas.Option.{IfSome_then}
use Rattle.ctt_files.specs.declared.fault.Fault.TheVariants.{Machine}
use Rattle.ctt_files.specs.declared.fault.MachineFault.TheVariants.{NoMemory}
use Rattle.ctt_files.proofs.Plain.{memory_of_file, of_text, passed_on}
use Rattle.ctt_commands.specs.Faults.{IsJournalFault}
use Rattle.ctt_commands.specs.Refusals.{IsNoJournalOf, IsOfJournal}
use Rattle.ctt_commands.specs.Texts.{IsJournalText}
use Rattle.ctt_commands.proofs.Causes.{no_journal}
use Rattle.ctt_commands.proofs.replays.fetch_entries.Goals as goal

pub returns-in-Ok-clause-spelled : goal.returns-in-Ok-clause-spelled
returns-in-Ok-clause-spelled g c =
    IfSome_then _ c.in_ok-text.ensures.all (λ text same. subst (λ bytes. IsJournalText c.args.instance.now bytes c.in-Ok.entries.items) (c.deref.ensures.value ∙ same) (record {
      is_text = c.in-Ok.ensures.text;
      spells = c.in-Ok.ensures.spelled;
    }))

pub returns-clause-cause : goal.returns-clause-cause
returns-clause-cause g c =
    let held = g.F.Files.held c.args.files.now in
    let name = c.args.journal in
    let problem = c.args.instance.now in
    let bytes = c.deref.result.now in
    let file : c.deref-in-Err.result.now ≡ string_bytes name = c.deref-in-Err.ensures ∙ c.in_ok-file.ensures.cases in
    let text : c.deref-in-Err-2.result.now ≡ bytes = c.deref-in-Err-2.ensures.value ∙ sym c.deref.ensures.value in
    let tells : IsJournalFault (string_bytes name) bytes c.in-Err.met c.refuse_journal.result = rw (file, text) at c.refuse_journal.ensures in
    of_text (IsNoJournalOf name problem) held name c.refuse_journal.result bytes c.in_ok-text.text.items
    (no_journal name c.in-Err.met problem bytes c.refuse_journal.result c.in-Err.ensures.fault c.in-Err.ensures.accepted tells) c.deref.ensures.value c.in_ok-text.ensures.all

pub returns-in_err-file-clause-cause : goal.returns-in_err-file-clause-cause
returns-in_err-file-clause-cause g c =
    let held = g.F.Files.held c.args.files.now in
    passed_on c.from_residual.result (Machine NoMemory) (IsOfJournal c.args.journal held c.args.instance.now) c.from_residual.ensures.1 (inl (memory_of_file held c.args.journal (Machine NoMemory) refl))

pub returns-in_err-text-clause-cause : goal.returns-in_err-text-clause-cause
returns-in_err-text-clause-cause g c =
    passed_on c.from_residual-in_err-text.result c.in_err-text.field-0.0 (IsOfJournal c.args.journal (g.F.Files.held c.args.files.now) c.args.instance.now) c.from_residual-in_err-text.ensures.1 (inl c.in_err-text.ensures.cause)
