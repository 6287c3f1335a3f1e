-- The courses of which lectures are missing, one by one.
use Rattle.std.proofs.Common.{◌≡◌, ℕ, suc, ◌+◌, ◌-◌, ◌<◌, ◌≤◌, Bool, true, false, List, [], ◌∷◌, ◌++◌, length, map, ◌∙◌, sym, ap, ap₂, arith}
use Rattle.std.proofs.lemmas.Bool.{lt-ltb, le-ltb}
use Rattle.std.proofs.lemmas.List.{append-nil, map-append}
use Rattle.ctt_problem.specs.Lists.{below}
use Rattle.ctt_problem.specs.Problem.{Problem, course_of}
use Rattle.ctt_problem.specs.Timetable.{course_row}
use Rattle.ctt_problem.specs.declared.placed.Placed.{Placed}
use Rattle.ctt_edits.specs.Missing.{missing_of, is_short, shortfall}
use Rattle.ctt_edits.specs.declared.shortfall.Shortfall.{Shortfall}

one_more : (n : ℕ) → n + 1 ≡ suc n
one_more n = omega arith

short_more : {X : Type 0} (f : ℕ → X) (p : ℕ → Bool) (n : ℕ) → p n ≡ true → map f (below p (n + 1)) ≡ map f (below p n) ++ f n ∷ []
short_more f p n passes = ap (λ m. map f (below p m)) (one_more n) ∙ rw passes (map-append f (below p n) (n ∷ []))

short_same : {X : Type 0} (f : ℕ → X) (p : ℕ → Bool) (n : ℕ) → p n ≡ false → map f (below p (n + 1)) ≡ map f (below p n)
short_same f p n fails = ap (λ m. map f (below p m)) (one_more n) ∙ rw fails (ap (map f) (append-nil (below p n)))

module _ (i : Problem) (t : List Placed) (n c m : ℕ) (old new : List Shortfall) (course : c ≡ n) (number : m ≡ missing_of i t c) (before : old ≡ map (shortfall i t) (below (is_short i t) n)) where
  number_of : m ≡ (course_of i n).lectures - length (course_row n t)
  number_of = number ∙ ap (missing_of i t) course

  pub missing_more : 0 < m → new ≡ old ++ record { course = c; missing = m } ∷ [] → new ≡ map (shortfall i t) (below (is_short i t) (n + 1))
  missing_more some is =
      let short : is_short i t n ≡ true = lt-ltb (length (course_row n t)) (course_of i n).lectures (omega (arith, some, number_of)) in
      is ∙ ap₂ (λ ls s. ls ++ s ∷ []) before (ap₂ (λ d k. record { course = d; missing = k }) course number_of) ∙ sym (short_more (shortfall i t) (is_short i t) n short)

  pub missing_same : m ≤ 0 → new ≡ old → new ≡ map (shortfall i t) (below (is_short i t) (n + 1))
  missing_same none is =
      let full : is_short i t n ≡ false = le-ltb (length (course_row n t)) (course_of i n).lectures (omega (arith, none, number_of)) in
      is ∙ before ∙ sym (short_same (shortfall i t) (is_short i t) n full)
