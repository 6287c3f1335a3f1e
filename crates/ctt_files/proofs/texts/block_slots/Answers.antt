use Rattle.std.proofs.Common.{◌≡◌, ◌∙◌, inl, refl, subst, sym, IfErr}
use Rattle.std.specs.String.{string_bytes}
use Rattle.std.proofs.lemmas.Option.{IfSome_then}
use Rattle.ctt_text.specs.BlockedLaws.{IsBlockedCauseOf}
use Rattle.ctt_files.specs.Faults.{IsBlockedFault}
use Rattle.ctt_files.specs.Refusals.{IsNoText, IsOfBlocked, IsOfText}
use Rattle.ctt_files.specs.Texts.{IsBlockedBy, IsBlockedText, IsNoBlocked}
use Rattle.ctt_files.specs.declared.fault.Fault.TheVariants.{Machine}
use Rattle.ctt_files.specs.declared.fault.MachineFault.TheVariants.{NoMemory}
use Rattle.ctt_files.proofs.Causes.{no_blocked}
use Rattle.ctt_files.proofs.Plain.{memory_of_file, of_text, passed_on}
use Rattle.ctt_files.proofs.texts.block_slots.Goals as goal

pub returns-in-Ok-clause-blocked : goal.returns-in-Ok-clause-blocked
returns-in-Ok-clause-blocked g c =
    let held = g.F.Files.held c.args.files.now in
    subst (λ given. IsBlockedBy held given c.args.instance.now c.read_blocked.new.instance) (sym c.in-Some.is)
    (IfSome_then _ c.in_ok-text.ensures.all (λ text same. subst (λ bytes. IsBlockedText c.args.instance.now bytes c.read_blocked.new.instance) (c.deref.ensures.value ∙ same) (record {
      is_text = c.in-Ok.ensures.text;
      closed = c.read_blocked.new.instance.closed;
      blocked = c.read_blocked.new.instance.blocked;
      spells = c.in-Ok.ensures.spelled;
      makes = c.in-Ok.ensures.others;
    })))

pub returns-clause-cause : goal.returns-clause-cause
returns-clause-cause g c =
    let held = g.F.Files.held c.args.files.now in
    let name = c.in-Some.name in
    let problem = c.args.instance.now in
    let bytes = c.deref.result.now in
    let file : c.deref-in-Err.result.now ≡ string_bytes name = c.deref-in-Err.ensures ∙ c.in_ok-file.ensures.cases in
    let text : c.deref-in-Err-2.result.now ≡ bytes = c.deref-in-Err-2.ensures.value ∙ sym c.deref.ensures.value in
    let tells : IsBlockedFault (string_bytes name) bytes c.in-Err.met c.refuse_blocked.result = rw (file, text) at c.refuse_blocked.ensures in
    subst (λ given. IsOfBlocked held problem given c.refuse_blocked.result) (sym c.in-Some.is)
    (of_text (IsNoText (IsBlockedFault (string_bytes name)) (IsBlockedCauseOf problem) (IsNoBlocked problem)) held name c.refuse_blocked.result bytes c.in_ok-text.text.items
    (no_blocked (string_bytes name) c.in-Err.met problem bytes c.refuse_blocked.result c.in-Err.ensures.fault c.in-Err.ensures.accepted tells) c.deref.ensures.value c.in_ok-text.ensures.all)

pub returns-in_err-file-clause-cause : goal.returns-in_err-file-clause-cause
returns-in_err-file-clause-cause g c =
    let held = g.F.Files.held c.args.files.now in
    let name = c.in-Some.name in
    let problem = c.args.instance.now in
    subst (λ given. IfErr c.from_residual.result (IsOfBlocked held problem given)) (sym c.in-Some.is)
    (passed_on c.from_residual.result (Machine NoMemory) (IsOfText (IsNoText (IsBlockedFault (string_bytes name)) (IsBlockedCauseOf problem) (IsNoBlocked problem)) held name) c.from_residual.ensures.1 (inl (memory_of_file held name (Machine NoMemory) refl)))

pub returns-in_err-text-clause-cause : goal.returns-in_err-text-clause-cause
returns-in_err-text-clause-cause g c =
    let held = g.F.Files.held c.args.files.now in
    let name = c.in-Some.name in
    let problem = c.args.instance.now in
    subst (λ given. IfErr c.from_residual-in_err-text.result (IsOfBlocked held problem given)) (sym c.in-Some.is)
    (passed_on c.from_residual-in_err-text.result c.in_err-text.field-0.0 (IsOfText (IsNoText (IsBlockedFault (string_bytes name)) (IsBlockedCauseOf problem) (IsNoBlocked problem)) held name) c.from_residual-in_err-text.ensures.1 (inl c.in_err-text.ensures.cause))
