-- The lectures of a timetable, slot by slot.
use Rattle.std.proofs.Common.{◌≡◌, ℕ, zero, suc, ◌+◌, ◌<◌, cond, ◌==◌, List, [], ◌∷◌, ◌++◌, length, map, take, get_or, refl, ◌∙◌, sym, ap, ap₂, arith, inl, inr}
use Rattle.std.specs.List.{AllByRecursion as Each}
use Rattle.std.proofs.lemmas.Bool.{cases_eq}
use Rattle.std.proofs.lemmas.List.{get_or-map, get_or_append_left, get_or_default, get_or_push, length-append, length-map, same_lists}
use Rattle.std.proofs.lemmas.List.Elements.{filter_more}
use Rattle.ctt_problem.specs.NumberLists.{AddsNumber}
use Rattle.ctt_problem.specs.Problem.{Problem, slot_count}
use Rattle.ctt_problem.specs.Timetable.{Fits, slot_row}
use Rattle.ctt_problem.specs.declared.placed.Placed.{Placed}
use Rattle.ctt_problem.proofs.TimetableLemmas.{Each-append, Each-at}
use Rattle.ctt_rules.proofs.ListLemmas.{Each-filter}
use Rattle.ctt_views.specs.Weeks.{WeekFits, by_slot, lectures_in}

length_by_slot : (n : ℕ) (t : List Placed) → length (by_slot n t) ≡ n
length_by_slot zero t = refl
length_by_slot (suc n) t = omega (arith, length-append (by_slot n t) (slot_row n t ∷ []), length_by_slot n t)

-- the lectures of a slot are those of its row
pub row_at : (n : ℕ) (t : List Placed) (s : ℕ) → s < n → get_or (by_slot n t) s [] ≡ slot_row s t
row_at zero t s lt = absurd (omega (arith, lt))
row_at (suc n) t s lt = elim (cases_eq s n) [
  | inl same ↦ get_or_push (by_slot n t) (slot_row n t) [] s (length_by_slot n t ∙ sym same) ∙ ap (λ k. slot_row k t) (sym same)
  | inr other ↦ (
      let less : s < n = omega (arith, lt, other) in
      get_or_append_left (by_slot n t) (slot_row n t ∷ []) [] s (omega (arith, less, length_by_slot n t)) ∙ row_at n t s less)
]

-- rows that are those of each slot are the whole week
pub by_slot_is : (rows : List (List Placed)) (n : ℕ) (t : List Placed) → length rows ≡ n → ((s : ℕ) → s < n → get_or rows s [] ≡ slot_row s t) → rows ≡ by_slot n t
by_slot_is rows n t size each =
    same_lists rows (by_slot n t) (size ∙ sym (length_by_slot n t))
    (λ s d lt.
    let less : s < n = omega (arith, lt, size) in
    let within : s < length (by_slot n t) = omega (arith, less, length_by_slot n t) in
    get_or_default rows s d [] lt ∙ each s less ∙ sym (row_at n t s less) ∙ get_or_default (by_slot n t) s [] d within)

rows_fit : (i : Problem) (t : List Placed) (n : ℕ) → Each (Fits i) t → Each (Each (Fits i)) (by_slot n t)
rows_fit i t zero h = tt
rows_fit i t (suc n) h = Each-append (Each (Fits i)) (by_slot n t) (slot_row n t ∷ []) (rows_fit i t n h) (Each-filter (Fits i) (λ (l : Placed). l.slot == n) t h, tt)

pub week_fits : (i : Problem) (t : List Placed) → Each (Fits i) t → WeekFits i (by_slot (slot_count i) t)
week_fits i t h = record { size = length_by_slot (slot_count i) t; fits = rows_fit i t (slot_count i) h }

-- a row that is looked up in a list of values that hold lists
pub row_read : {V : Type 0} (items : V → List Placed) (values : List V) (rows : List (List Placed)) (k s : ℕ) (x : V) (row : List Placed)
    → map items values ≡ rows → k ≡ s → s < length rows → x ≡ get_or values k x → row ≡ items x → row ≡ lectures_in rows s
row_read items values rows k s x row e same lt is value =
    let within : k < length values = omega (arith, lt, same, length-map values items, ap length e) in
    value ∙ ap items is ∙ sym (get_or-map items values k x [] within) ∙ ap₂ (λ xs n. get_or xs n []) e same

pub row_fits : (i : Problem) (w : List (List Placed)) (s : ℕ) (row : List Placed) → WeekFits i w → s < slot_count i → row ≡ lectures_in w s → Each (Fits i) row
row_fits i w s row h lt is = rw is (Each-at (Each (Fits i)) w h.fits s [] (omega (arith, lt, h.size)))

-- the row of a slot with one more lecture
row_more : (t : List Placed) (k : ℕ) (x : Placed) (s : ℕ) → k < length t → x ≡ get_or t k x → slot_row s (take (k + 1) t) ≡ slot_row s (take k t) ++ cond (x.slot == s) (x ∷ []) []
row_more t k x s lt at = filter_more (λ (l : Placed). l.slot == s) t k x lt ∙ ap (λ (y : Placed). slot_row s (take k t) ++ cond (y.slot == s) (y ∷ []) []) (sym at)

pub rows_more : (t : List Placed) (k : ℕ) (x : Placed) (old new : List (List Placed)) → k < length t → x ≡ get_or t k x → AddsNumber old new x (λ s. x.slot == s)
    → ((s : ℕ) → s < length old → get_or old s [] ≡ slot_row s (take k t)) → (s : ℕ) → s < length old → get_or new s [] ≡ slot_row s (take (k + 1) t)
rows_more t k x old new lt at added so_far s less =
    added.lists s less ∙ ap (λ xs. xs ++ cond (x.slot == s) (x ∷ []) []) (so_far s less) ∙ sym (row_more t k x s lt at)
