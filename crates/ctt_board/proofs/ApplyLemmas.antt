-- What a change does to the parts of a timetable.
use Rattle.std.proofs.Common.{◌≡◌, ℕ, Bool, true, false, not, ◌&&◌, ◌==◌, List, [], ◌∷◌, Option, Some, None, refl, ◌∙◌, sym, ap, inl, inr}
use Rattle.std.specs.List.{filter, list_any}
use Rattle.std.proofs.lemmas.Bool.{cases_Bool, cases_eq, ne_eqb, and_left, and_right, or_parts}
use Rattle.ctt_problem.specs.Timetable.{before, with}
use Rattle.ctt_problem.specs.declared.placed.Placed.{Placed}
use Rattle.ctt_rules.proofs.ListLemmas.{filter_within}
use Rattle.ctt_board.specs.Changes.{apply_at, apply}
use Rattle.ctt_board.specs.declared.cell.Cell.{Cell}
use Rattle.ctt_board.proofs.PutLemmas.{filter_filter, filter-put_yes, filter-put_no}
use Rattle.ctt_board.proofs.OrderLemmas.{before_goes, InOrder, InOrder-with, InOrder-without}

abbrev at : ℕ → ℕ → ℕ → Placed
at c s r = record { course = c; slot = s; room = r }

abbrev stays : ℕ → ℕ → Placed → Bool
stays c s l = not (l.course == c && l.slot == s)

-- each cell preserves the order
pub InOrder-at : (c s : ℕ) (r : Option ℕ) (t : List Placed) → InOrder t → InOrder (apply_at c s r t)
InOrder-at c s None t h = InOrder-without c s t h
InOrder-at c s (Some r) t h = InOrder-with (at c s r) t h

-- any part that two timetables share they share after one change
pub agree_at : (p : Placed → Bool) (c s : ℕ) (r : Option ℕ) (t u : List Placed) → InOrder t → InOrder u → filter p t ≡ filter p u → filter p (apply_at c s r t) ≡ filter p (apply_at c s r u)
agree_at p c s None t u h k e = filter_filter p (stays c s) t ∙ ap (λ ls. filter (stays c s) ls) e ∙ sym (filter_filter p (stays c s) u)
agree_at p c s (Some r) t u h k e = elim (cases_Bool (p (at c s r))) [
  | inl b ↦ (filter-put_yes p before before_goes (at c s r) t b h ∙ ap (λ ls. with (at c s r) ls) e ∙ sym (filter-put_yes p before before_goes (at c s r) u b k))
  | inr b ↦ (filter-put_no p before (at c s r) t b ∙ e ∙ sym (filter-put_no p before (at c s r) u b))
]

pub agree_apply : (p : Placed → Bool) (cells : List Cell) (t u : List Placed) → InOrder t → InOrder u → filter p t ≡ filter p u → filter p (apply cells t) ≡ filter p (apply cells u)
agree_apply p [] t u h k e = e
agree_apply p (x ∷ xs) t u h k e =
    agree_apply p xs (apply_at x.course x.slot x.room t) (apply_at x.course x.slot x.room u)
    (InOrder-at x.course x.slot x.room t h) (InOrder-at x.course x.slot x.room u k) (agree_at p x.course x.slot x.room t u h k e)

-- a part that contains no lecture of a cell's course and slot is unchanged
outside_at : (p : Placed → Bool) (c s : ℕ) (r : Option ℕ) (t : List Placed) → ((l : Placed) → l.course ≡ c → l.slot ≡ s → p l ≡ false) → filter p (apply_at c s r t) ≡ filter p t
outside_at p c s None t no' = filter_within p (stays c s) t keeps
  where
    keeps : (l : Placed) → p l ≡ true → stays c s l ≡ true
    keeps l h = elim (cases_eq l.course c) [
      | inl same ↦ (elim (cases_eq l.slot s) [
        | inl same2 ↦ (let h' : p l ≡ false = no' l same same2 in cc)
        | inr other ↦ ap not (and_right (l.course == c) (l.slot == s) (ne_eqb l.slot s other))
      ])
      | inr other ↦ ap not (and_left (l.course == c) (l.slot == s) (ne_eqb l.course c other))
    ]
outside_at p c s (Some r) t no' = filter-put_no p before (at c s r) t (no' (at c s r) refl refl)

-- a part without a cell's course, and one without a cell's slot
pub untouched_at : (p : ℕ → Bool) (c s : ℕ) (r : Option ℕ) (t : List Placed) → p c ≡ false → filter (λ l. p l.course) (apply_at c s r t) ≡ filter (λ l. p l.course) t
untouched_at p c s r t e = outside_at (λ l. p l.course) c s r t (λ l course slot. ap p course ∙ e)

pub untouched_slot_at : (p : ℕ → Bool) (c s : ℕ) (r : Option ℕ) (t : List Placed) → p s ≡ false → filter (λ l. p l.slot) (apply_at c s r t) ≡ filter (λ l. p l.slot) t
untouched_slot_at p c s r t e = outside_at (λ l. p l.slot) c s r t (λ l course slot. ap p slot ∙ e)

-- and without the courses, or the slots, of all cells
pub untouched_apply : (p : ℕ → Bool) (cells : List Cell) (t : List Placed) → list_any (λ x. p x.course) cells ≡ false → filter (λ l. p l.course) (apply cells t) ≡ filter (λ l. p l.course) t
untouched_apply p [] t h = refl
untouched_apply p (x ∷ xs) t h =
    let parts = or_parts (p x.course) (list_any (λ x. p x.course) xs) h in
    untouched_apply p xs (apply_at x.course x.slot x.room t) parts.1 ∙ untouched_at p x.course x.slot x.room t parts.0

pub untouched_slot_apply : (p : ℕ → Bool) (cells : List Cell) (t : List Placed) → list_any (λ x. p x.slot) cells ≡ false → filter (λ l. p l.slot) (apply cells t) ≡ filter (λ l. p l.slot) t
untouched_slot_apply p [] t h = refl
untouched_slot_apply p (x ∷ xs) t h =
    let parts = or_parts (p x.slot) (list_any (λ x. p x.slot) xs) h in
    untouched_slot_apply p xs (apply_at x.course x.slot x.room t) parts.1 ∙ untouched_slot_at p x.course x.slot x.room t parts.0
