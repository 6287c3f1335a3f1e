use Rattle.std.proofs.Common.{◌≡◌, ◌∙◌, ◌++◌, ℕ, List, IsUtf8, append_assoc, append-nil, ap, chars, encode_utf8, flat_map, rules, sym}
use Rattle.std.proofs.StrCases.{chars_of_empty}
use Rattle.std.proofs.lemmas.Str.{IsUtf8-past_char, chars_past_char}
use Rattle.ctt_commands.specs.Places.{below_char}
use Rattle.ctt_commands.proofs.places.push_below_text.Goals as goal

-- one character more
more_below : (items old rest whole : List ℕ) (letter : ℕ) → IsUtf8 old → old ≡ encode_utf8 letter ++ rest → items ++ flat_map below_char (chars old) ≡ whole
    → (items ++ below_char letter) ++ flat_map below_char (chars rest) ≡ whole
more_below items old rest whole letter utf8 parts so_far =
    append_assoc items (below_char letter) (flat_map below_char (chars rest))
    ∙ sym (ap (λ cs. items ++ flat_map below_char cs) (chars_past_char old rest letter utf8 parts))
    ∙ so_far

pub loop-letter-preserved : goal.loop-letter-preserved
loop-letter-preserved c =
    let held = c.loop-letter.invariant in
    let parts = c.in-Some.ensures.steps.0 in
    let letter = c.in-Some.letter in
    let items = c.loop-letter.text.items in
    let pushed : c.push_below_char.new.text.items ≡ items ++ below_char letter = search rules in (
      IsUtf8-past_char _ _ letter held.0 parts,
      rw pushed (more_below items _ _ _ letter held.0 parts held.1),
    )

pub returns : goal.returns
returns c =
    let held = c.loop-letter.invariant in
    let items = c.loop-letter.text.items in
    sym (append-nil items)
    ∙ sym (ap (λ cs. items ++ flat_map below_char cs) (chars_of_empty _ c.in-None.ensures.steps.0.0))
    ∙ held.1
