use Rattle.std.proofs.Common.{◌≡◌, ◌∙◌, ⊎_elim, inl, subst}
use Rattle.std.specs.String.{string_bytes}
use Rattle.ctt_files.specs.Refusals.{IsOfText}
use Rattle.ctt_files.proofs.Plain.{memory_of_file, of_text, passed_on}
use Rattle.ctt_commands.specs.Pairs.{IsNoPairs}
use Rattle.ctt_commands.proofs.candidates.fetch_pairs.Goals as goal

pub returns-in_err-pairs-clause-cause : goal.returns-in_err-pairs-clause-cause
returns-in_err-pairs-clause-cause g c =
    let held = g.F.Files.held c.args.files.now in
    let name = c.args.pairs in
    let fault = c.in_err-pairs.field-0.0 in
    let file : c.deref.result.now ≡ string_bytes name = c.deref.ensures ∙ c.in_ok-file.ensures.cases in
    passed_on c.from_residual-in_err-pairs.result fault (IsOfText (IsNoPairs (string_bytes name)) held name) c.from_residual-in_err-pairs.ensures.1
    (⊎_elim (λ memory. inl (memory_of_file held name fault memory))
    (λ refused. of_text (IsNoPairs (string_bytes name)) held name fault c.deref-2.result.now c.in_ok-text.text.items
    (subst (λ given. IsNoPairs given c.deref-2.result.now fault) file refused) c.deref-2.ensures.value c.in_ok-text.ensures.all) c.in_err-pairs.ensures.cause)
