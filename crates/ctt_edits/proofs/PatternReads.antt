-- The rows that a pattern reads are those that the prices of its edits read.
use Rattle.std.proofs.Common.{◌≡◌, ℕ, zero, suc, ◌+◌, ◌<◌, ◌≤◌, Bool, true, false, ◌==◌, List, [], ◌∷◌, ◌++◌, map, Option, Some, None, refl, ◌∙◌, sym, ap, arith, inl, inr}
use Rattle.std.specs.List.{flat_map, list_any, range_with_len, AllByRecursion as Each}
use Rattle.std.proofs.lemmas.Bool.{cases_Bool, cases_eq, eq-eqb, ne_eqb, or_left, or_right}
use Rattle.std.proofs.lemmas.List.Folds.{list_any-append}
use Rattle.ctt_problem.specs.Lists.{has}
use Rattle.ctt_problem.specs.Problem.{Problem, course_count, slot_count, room_count, mates}
use Rattle.ctt_edits.specs.Calls.{edit_courses, edit_slots, with_mates, is_choice, pattern_reads_course, pattern_reads_slot}
use Rattle.ctt_edits.specs.Candidates.{edit_by}
use Rattle.ctt_edits.specs.EditLaws.{PatternReads}
use Rattle.ctt_edits.specs.Patterns.{PatternFits, given_or_all, edits_of}
use Rattle.ctt_edits.specs.declared.edit.Edit.TheVariants.{Place, Move, Swap, Reroom}
use Rattle.ctt_edits.specs.declared.pattern.Pattern.{Pattern}
use Rattle.ctt_edits.specs.declared.pattern.Pattern.TheVariants.{Place as AnyPlace, Move as AnyMove, Swap as AnySwap, Reroom as AnyReroom}
use Rattle.ctt_edits.proofs.CheapestLemmas.{FirstOf, each_edit}
use Rattle.ctt_edits.proofs.PatternFrame.{chosen}

none_passes : {X : Type 0} (f : X → Bool) (xs : List X) → Each (λ x. f x ≡ true → false ≡ true) xs → list_any f xs ≡ false
none_passes f [] h = refl
none_passes f (x ∷ xs) h = elim (cases_Bool (f x)) [
  | inl b ↦ (let absurd_one : false ≡ true = h.0 b in cc)
  | inr b ↦ rw b (none_passes f xs h.1)
]

-- a test that holds exactly if one of them passes
equal_any : {X : Type 0} (b : Bool) (f : X → Bool) (xs : List X) → Each (λ x. f x ≡ true → b ≡ true) xs → (b ≡ true → list_any f xs ≡ true) → b ≡ list_any f xs
equal_any true f xs h k = sym (k refl)
equal_any false f xs h k = sym (none_passes f xs h)

-- one that passes, in either part of a list
any_front : {X : Type 0} (f : X → Bool) (xs ys : List X) → list_any f xs ≡ true → list_any f (xs ++ ys) ≡ true
any_front f xs ys h = list_any-append f xs ys ∙ or_left (list_any f xs) (list_any f ys) h

any_back : {X : Type 0} (f : X → Bool) (xs ys : List X) → list_any f ys ≡ true → list_any f (xs ++ ys) ≡ true
any_back f xs ys h = list_any-append f xs ys ∙ or_right (list_any f xs) (list_any f ys) h

-- a number of the list that is not the first comes after it
has_rest : (z y : ℕ) (zs : List ℕ) → (z ≡ y → ⊥) → has y (z ∷ zs) ≡ true → has y zs ≡ true
has_rest z y zs other h = rw (ne_eqb z y other) at h

any_map : {Y : Type 0} (f : Y → Bool) (g : ℕ → Y) (ys : List ℕ) (y : ℕ) → has y ys ≡ true → f (g y) ≡ true → list_any f (map g ys) ≡ true
any_map f g [] y h k = cc
any_map f g (z ∷ zs) y h k = elim (cases_eq z y) [
  | inl same ↦ or_left (f (g z)) (list_any f (map g zs)) (ap (λ w. f (g w)) same ∙ k)
  | inr other ↦ or_right (f (g z)) (list_any f (map g zs)) (any_map f g zs y (has_rest z y zs other h) k)
]

any_pair : {Y : Type 0} (f : Y → Bool) (g : ℕ → ℕ → Y) (xs ys : List ℕ) (x y : ℕ) → has x xs ≡ true → has y ys ≡ true → f (g x y) ≡ true → list_any f (flat_map (λ w. map (g w) ys) xs) ≡ true
any_pair f g [] ys x y h k e = cc
any_pair f g (z ∷ zs) ys x y h k e = elim (cases_eq z x) [
  | inl same ↦ any_front f (map (g z) ys) (flat_map (λ w. map (g w) ys) zs) (any_map f (g z) ys y k (ap (λ w. f (g w y)) same ∙ e))
  | inr other ↦ any_back f (map (g z) ys) (flat_map (λ w. map (g w) ys) zs) (any_pair f g zs ys x y (has_rest z x zs other h) k e)
]

has_range : (a m x : ℕ) → a ≤ x → x < a + m → has x (range_with_len a m) ≡ true
has_range a zero x le lt = absurd (omega (arith, le, lt))
has_range a (suc m) x le lt = elim (cases_eq a x) [
  | inl same ↦ or_left (a == x) (has x (range_with_len (a + 1) m)) (eq-eqb a x same)
  | inr other ↦ or_right (a == x) (has x (range_with_len (a + 1) m)) (has_range (a + 1) m x (omega (arith, le, other)) (omega (arith, lt)))
]

alone : (y : ℕ) → has y (y ∷ []) ≡ true
alone y = or_left (y == y) false (eq-eqb y y refl)

in_choices : (n : ℕ) (o : Option ℕ) (z : ℕ) → z < n → is_choice o z ≡ true → has z (given_or_all n o) ≡ true
in_choices n None z lt e = has_range 0 n z (omega arith) (omega (arith, lt))
in_choices n (Some y) z lt e = e

a_choice : (n : ℕ) (o : Option ℕ) → 0 < n → (x : ℕ) × (has x (given_or_all n o) ≡ true)
a_choice n None lt = (0, has_range 0 n 0 (omega arith) (omega (arith, lt)))
a_choice n (Some y) lt = (y, alone y)

module _ (i : Problem) (rooms : 0 < room_count i) (slots : 0 < slot_count i) where
  course_read : (p : Pattern) (c : ℕ) → c < course_count i → pattern_reads_course i p c ≡ true → list_any (λ e. with_mates i (edit_courses e) c) (edits_of i p) ≡ true
  course_read (AnyPlace d s r) c lt e =
      let x = a_choice (slot_count i) s slots in
      let y = a_choice (room_count i) r rooms in
      any_pair (λ f. with_mates i (edit_courses f) c) (Place d) (given_or_all (slot_count i) s) (given_or_all (room_count i) r) x.0 y.0 x.1 y.1 e
  course_read (AnyMove d s s2 r) c lt e =
      let x = a_choice (slot_count i) s2 slots in
      let y = a_choice (room_count i) r rooms in
      any_pair (λ f. with_mates i (edit_courses f) c) (Move d s) (given_or_all (slot_count i) s2) (given_or_all (room_count i) r) x.0 y.0 x.1 y.1 e
  course_read (AnySwap d s) c lt e =
      let y = a_choice (slot_count i) None slots in
      any_pair (λ f. with_mates i (edit_courses f) c) (Swap d s) (given_or_all (course_count i) None) (given_or_all (slot_count i) None) c y.0 (in_choices (course_count i) None c lt refl) y.1
      (or_left (has c (d ∷ c ∷ [])) (list_any (λ b. mates i b c) (d ∷ c ∷ [])) (or_right (d == c) (has c (c ∷ [])) (alone c)))
  course_read (AnyReroom d s r) c lt e =
      let y = a_choice (room_count i) r rooms in
      any_map (λ f. with_mates i (edit_courses f) c) (Reroom d s) (given_or_all (room_count i) r) y.0 y.1 e

  slot_read : (p : Pattern) (z : ℕ) → PatternFits i p → z < slot_count i → pattern_reads_slot p z ≡ true → list_any (λ e. has z (edit_slots e)) (edits_of i p) ≡ true
  slot_read (AnyPlace d s r) z f lt e =
      let y = a_choice (room_count i) r rooms in
      any_pair (λ f. has z (edit_slots f)) (Place d) (given_or_all (slot_count i) s) (given_or_all (room_count i) r) z y.0 (in_choices (slot_count i) s z lt e) y.1 (alone z)
  slot_read (AnyMove d s s2 r) z f lt e =
      let y = a_choice (room_count i) r rooms in
      any_pair (λ f. has z (edit_slots f)) (Move d s) (given_or_all (slot_count i) s2) (given_or_all (room_count i) r) z y.0 (in_choices (slot_count i) s2 z lt e) y.1 (alone z)
  slot_read (AnySwap d s) z f lt e =
      any_pair (λ f. has z (edit_slots f)) (Swap d s) (given_or_all (course_count i) None) (given_or_all (slot_count i) None) d z (in_choices (course_count i) None d f.0 refl) (in_choices (slot_count i) None z lt refl)
      (or_right (s == z) (has z (z ∷ [])) (alone z))
  slot_read (AnyReroom d s r) z f lt e =
      let y = a_choice (room_count i) r rooms in
      any_map (λ f. has z (edit_slots f)) (Reroom d s) (given_or_all (room_count i) r) y.0 y.1 e

course_only : (i : Problem) (p : Pattern) (c x y : ℕ) → with_mates i (edit_courses (edit_by p x y)) c ≡ true → pattern_reads_course i p c ≡ true
course_only i (AnyPlace d s r) c x y h = h
course_only i (AnyMove d s s2 r) c x y h = h
course_only i (AnySwap d s) c x y h = refl
course_only i (AnyReroom d s r) c x y h = h

slot_only : (i : Problem) (p : Pattern) (z x y : ℕ) → FirstOf i p x → has z (edit_slots (edit_by p x y)) ≡ true → pattern_reads_slot p z ≡ true
slot_only i (AnyPlace d s r) z x y first h = chosen (slot_count i) s x z first h
slot_only i (AnyMove d s s2 r) z x y first h = chosen (slot_count i) s2 x z first h
slot_only i (AnySwap d s) z x y first h = refl
slot_only i (AnyReroom d s r) z x y first h = ap (λ w. has z (w ∷ [])) (sym first) ∙ h

pub pattern_reads : PatternReads
pattern_reads i p f rooms slots = (
  (λ c lt. equal_any (pattern_reads_course i p c) (λ e. with_mates i (edit_courses e) c) (edits_of i p)
      (each_edit i p (λ e. with_mates i (edit_courses e) c ≡ true → pattern_reads_course i p c ≡ true) f (λ x y first second. course_only i p c x y)) (course_read i rooms slots p c lt)),
  (λ z lt. equal_any (pattern_reads_slot p z) (λ e. has z (edit_slots e)) (edits_of i p)
      (each_edit i p (λ e. has z (edit_slots e) ≡ true → pattern_reads_slot p z ≡ true) f (λ x y first second. slot_only i p z x y first)) (slot_read i rooms slots p z f lt)),
)
