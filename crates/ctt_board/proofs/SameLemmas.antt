-- Equal rows are equal cell by cell.
use Rattle.std.proofs.Common.{◌≡◌, ◌<◌, ◌==◌, ◌↔◌, IsTrue, true, false, not, ℕ, List, Option, Some, None, refl, ◌∙◌, sym, ap, arith}
use Rattle.std.specs.Option.{option_eq}
use Rattle.std.proofs.lemmas.Bool.Decides.{nat_tests}
use Rattle.std.specs.List.{find, filter}
use Rattle.ctt_problem.specs.Problem.{Problem, course_count, slot_count}
use Rattle.ctt_problem.specs.Timetable.{IsTimetable, course_row, slot_row}
use Rattle.ctt_problem.specs.declared.placed.Placed.{Placed}
use Rattle.ctt_board.specs.Changes.{room_at, room_of}
use Rattle.ctt_board.specs.Cells.{lecture_at}
use Rattle.ctt_board.proofs.RowLemmas.{course_row_is}
use Rattle.ctt_board.proofs.CellLemmas.{row_same, column_same, slot_row_is, one_course}

module _ (i : Problem) (t u : List Placed) (h : IsTimetable i t) (k : IsTimetable i u) where
  pub course_rows_same : (c : ℕ) → ((s : ℕ) → s < slot_count i → room_at c s t ≡ room_at c s u) → course_row c t ≡ course_row c u
  course_rows_same c e = course_row_is i t c h ∙ row_same (λ s. room_at c s t) (λ s. room_at c s u) c (slot_count i) e ∙ sym (course_row_is i u c k)

  pub slot_rows_same : (s : ℕ) → ((c : ℕ) → c < course_count i → room_at c s t ≡ room_at c s u) → slot_row s t ≡ slot_row s u
  slot_rows_same s e = slot_row_is i t s h ∙ column_same s (λ c. room_at c s t) (λ c. room_at c s u) (course_count i) e ∙ sym (slot_row_is i u s k)

  abbrev cell_of : List Placed → Option ℕ
  cell_of row = room_of (find (λ (l : Placed). true) row)

  cell_is : (c s : ℕ) (o : Option ℕ) → cell_of (lecture_at c s o) ≡ o
  cell_is c s None = refl
  cell_is c s (Some r) = refl

  pub room_by_slot_row : (c s : ℕ) → slot_row s t ≡ slot_row s u → room_at c s t ≡ room_at c s u
  room_by_slot_row c s e =
      let same : lecture_at c s (room_at c s t) ≡ lecture_at c s (room_at c s u) = sym (one_course i t s h c) ∙ ap (λ row. filter (λ (l : Placed). l.course == c) row) e ∙ one_course i u s k c in
      sym (cell_is c s (room_at c s t)) ∙ ap cell_of same ∙ cell_is c s (room_at c s u)

pub room_by_course_row : (t u : List Placed) (c s : ℕ) → course_row c t ≡ course_row c u → room_at c s t ≡ room_at c s u
room_by_course_row t u c s e = ap (λ row. room_of (find (λ (l : Placed). l.slot == s) row)) e

-- the test whether two cells are equal
pub same_cell : (a b : Option ℕ) → not (option_eq (λ (m n : ℕ). m == n) a b) ≡ false → a ≡ b
same_cell None None e = refl
same_cell None (Some n) e = cc
same_cell (Some m) None e = cc
same_cell (Some m) (Some n) e = ap Some (grind (arith, nat_tests))

other_cell : (a b : Option ℕ) → not (option_eq (λ (m n : ℕ). m == n) a b) ≡ true → a ≡ b → ⊥
other_cell None None e k = cc
other_cell None (Some n) e k = cc
other_cell (Some m) None e k = cc
other_cell (Some m) (Some n) e k = (let same : m ≡ n = cc in grind (arith, nat_tests))

-- cells that differ, of two things that would have the same cells if they were the same
pub differ : (P : Type 0) (a b : Option ℕ) → not (option_eq (λ (m n : ℕ). m == n) a b) ≡ true → (P → a ≡ b) → IsTrue false ↔ P
differ P a b e h = (λ k. cc, λ p. absurd (other_cell a b e (h p)))

pub agree : (P : Type 0) → P → IsTrue true ↔ P
agree P p = (λ h. p, λ q. refl)
