-- What a line asks for, by its words.
use Rattle.std.proofs.Common.{◌≡◌, ◌∙◌, ℕ, Bool, true, false, List, [], refl, ap, if◌then◌else◌}
use Rattle.std.specs.Str.{IsUtf8, is_utf8}
use Rattle.std.proofs.lemmas.Str.{IsUtf8-from_is_utf8, is_utf8-from_IsUtf8}
use Rattle.ctt_problem.specs.Problem.{Problem}
use Rattle.ctt_text.specs.Words.{words}
use Rattle.ctt_office.specs.BadWords.{first_untext}
use Rattle.ctt_office.specs.SeatText.{seat_line, words_line}
use Rattle.ctt_office.specs.declared.seat_line.SeatLine.{SeatLine}
use Rattle.ctt_office.specs.declared.seat_line.SeatLine.TheVariants.{Bad}

-- a line that is UTF-8 asks for what its words ask for
pub of_text : (i : Problem) (p : ℕ) (line text : List ℕ) (what : SeatLine) → IsUtf8 line → text ≡ line → what ≡ words_line i p (words text) → what ≡ seat_line i p line
of_text i p line text what utf8 same is = rw (is_utf8-from_IsUtf8 line utf8) (is ∙ ap (λ bs. words_line i p (words bs)) same)

-- a line that is not UTF-8 asks for nothing known
pub of_untext : (i : Problem) (p : ℕ) (line : List ℕ) (what : SeatLine) → ¬ IsUtf8 line → what ≡ Bad (record { at = first_untext 1 (words line); word = [] }) → what ≡ seat_line i p line
of_untext i p line what not is = by (is_utf8 line) refl
  where
    by : (b : Bool) → is_utf8 line ≡ b → what ≡ (if b then words_line i p (words line) else Bad (record { at = first_untext 1 (words line); word = [] }))
    by true e = absurd (not (IsUtf8-from_is_utf8 line e))
    by false e = is
