use Rattle.std.proofs.Common.{◌++◌, append_assoc, append-nil, sym, ap, ◌∙◌, rules}
use Rattle.std.proofs.Output.{has_written_append, has_written_of_eq}
use Rattle.std.proofs.lemmas.Str.{IsUtf8-past_char}
use Rattle.ctt_text.specs.Points.{printable_char}
use Rattle.ctt_text.proofs.PointLemmas.{printable_empty, printable_step}
use Rattle.ctt_text.proofs.shown.PrintableDisplay.fmt.Goals as goal

pub loop-letter-preserved : goal.loop-letter-preserved
loop-letter-preserved g c =
    let held = c.loop-letter.invariant in
    let parts = c.in-Some.ensures.steps.0 in
    let letter = c.in-Some.letter in (
      IsUtf8-past_char _ _ letter held.0 parts,
      λ plain.
          let so_far = held.1 plain in (
            so_far.0 ++ printable_char letter,
            has_written_append _ _ _ _ _ _ so_far.1 (search rules),
            append_assoc so_far.0 (printable_char letter) _ ∙ ap (λ xs. so_far.0 ++ xs) (sym (printable_step _ _ letter held.0 parts)) ∙ so_far.2,
          ),
    )

pub returns-clause-writes : goal.returns-clause-writes
returns-clause-writes g c =
    λ plain _.
    let so_far = c.loop-letter.invariant.1 plain in
    has_written_of_eq _ _ _ _ _ (sym (append-nil so_far.0) ∙ ap (λ xs. so_far.0 ++ xs) (sym (printable_empty _ c.in-None.ensures.steps.0.0)) ∙ so_far.2) so_far.1
