-- The table of the courses that have each room, after one lecture is added and after one is removed.
use Rattle.std.proofs.Common.{◌≡◌, ◌<◌, ℕ, cond, ◌&&◌, ◌==◌, List, [], Option, Some, None, ◌∙◌, sym, ap, arith}
use Rattle.std.proofs.lemmas.Bool.Decides.{nat_tests}
use Rattle.ctt_problem.specs.Problem.{Problem, slot_count, room_count}
use Rattle.ctt_problem.specs.Timetable.{with, without}
use Rattle.ctt_problem.specs.declared.placed.Placed.{Placed}
use Rattle.ctt_rules.specs.Hard.{Lawful}
use Rattle.ctt_board.specs.Changes.{room_at, holder_at}
use Rattle.ctt_grid.specs.Grids.{AreHolders}
use Rattle.ctt_grid.specs.Tables.{Grid, at}
use Rattle.ctt_grid.specs.Counts.{HasShape}
use Rattle.ctt_board.proofs.HolderLemmas.{holder_with, holder_without}

-- the table of the courses
abbrev pub WroteCourse : Problem → Grid (Option ℕ) → Grid (Option ℕ) → ℕ → ℕ → Option ℕ → Type 0
WroteCourse i old new s r o = (d e : ℕ) → e < room_count i → at new d e None ≡ cond (d == s && e == r) o (at old d e None)

flipped : (a b c d : ℕ) → (a == b && c == d) ≡ (b == a && d == c)
flipped a b c d = grind (arith, nat_tests)

pub holders_with : (i : Problem) (l : Placed) (t : List Placed) (old new : Grid (Option ℕ)) → AreHolders i t old → new.rows ≡ old.rows → new.width ≡ old.width → WroteCourse i old new l.slot l.room (Some l.course) → Lawful i (with l t) → AreHolders i (with l t) new
holders_with i l t old new h rows width wrote lawful = record {
  size = (rows ∙ h.size.0, width ∙ h.size.1);
  courses = λ s r ls lr. wrote s r lr ∙ ap (cond (s == l.slot && r == l.room) (Some l.course)) (h.courses s r ls lr) ∙ ap (λ b. cond b (Some l.course) (holder_at s r t)) (flipped s l.slot r l.room) ∙ sym (holder_with l t s r lawful.rooms_apart);
}

pub holders_without : (i : Problem) (l : Placed) (t : List Placed) (old new : Grid (Option ℕ)) → AreHolders i t old → new.rows ≡ old.rows → new.width ≡ old.width → WroteCourse i old new l.slot l.room None → Lawful i t → room_at l.course l.slot t ≡ Some l.room → AreHolders i (without l.course l.slot t) new
holders_without i l t old new h rows width wrote lawful there = record {
  size = (rows ∙ h.size.0, width ∙ h.size.1);
  courses = λ s r ls lr. wrote s r lr ∙ ap (cond (s == l.slot && r == l.room) None) (h.courses s r ls lr) ∙ ap (λ b. cond b None (holder_at s r t)) (flipped s l.slot r l.room) ∙ sym (holder_without i l t s r lawful there);
}

pub no_holders : (i : Problem) (g : Grid (Option ℕ)) → HasShape g (slot_count i) (room_count i) → ((s r : ℕ) → s < slot_count i → r < room_count i → at g s r None ≡ None) → AreHolders i [] g
no_holders i g size none = record { size = size; courses = none }
