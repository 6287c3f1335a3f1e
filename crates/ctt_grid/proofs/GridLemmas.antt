-- What a table of rooms shows, and the costs with one lecture more and with one less.
use Rattle.std.proofs.Common.{◌≡◌, ℕ, ◌<◌, false, cond, ◌&&◌, ◌==◌, List, [], ◌+◌, Option, Some, None, is_some, length, get_or, ◌∙◌, sym, ap, ap₂, subst, arith}
use Rattle.std.specs.List.{sum_by}
use Rattle.std.proofs.lemmas.Bool.Decides.{nat_tests}
use Rattle.ctt_problem.specs.Problem.{Problem, course_count, slot_count}
use Rattle.ctt_problem.specs.Timetable.{IsTimetable, with, without}
use Rattle.ctt_problem.specs.declared.placed.Placed.{Placed}
use Rattle.ctt_problem.proofs.TableLemmas.{same_element}
use Rattle.ctt_rules.specs.Hard.{Lawful}
use Rattle.ctt_rules.specs.Penalty.{penalty}
use Rattle.ctt_grid.specs.CostDelta.{DiffersBy, with_delta, without_delta}
use Rattle.ctt_grid.specs.Seen.{Sees}
use Rattle.ctt_grid.specs.declared.cost_delta.CostDelta.{CostDelta}
use Rattle.ctt_grid.specs.declared.counts_after.CountsAfter.{CountsAfter}
use Rattle.ctt_rules.specs.declared.cost.Cost.{Cost}
use Rattle.ctt_board.specs.Changes.{room_at, apply_at, CellFits}
use Rattle.ctt_grid.specs.Tables.{Grid, at}
use Rattle.ctt_grid.specs.Counts.{AreCounts, HasShape}
use Rattle.ctt_grid.specs.Grids.{timetable_in, AreRooms, AreHolders, AreInSlots, AreTables}
use Rattle.ctt_grid.specs.declared.counts.Counts.{Counts}
use Rattle.ctt_grid.specs.declared.tables.Tables.{Tables}
use Rattle.ctt_board.proofs.RoomLemmas.{room_after}
use Rattle.ctt_board.proofs.CellLemmas.{timetable_is, rows_same}

-- a table that has the rooms of a timetable shows it
pub shown : (i : Problem) (t : List Placed) (g : Grid (Option ℕ)) → IsTimetable i t → AreRooms i t g → timetable_in i g ≡ t
shown i t g h rooms = rows_same (λ c s. at g c s None) (λ c s. room_at c s t) (slot_count i) (course_count i) rooms.rooms ∙ sym (timetable_is i t h)

-- the rooms after a cell
abbrev pub WroteRoom : Problem → Grid (Option ℕ) → Grid (Option ℕ) → ℕ → ℕ → Option ℕ → Type 0
WroteRoom i old new c s o = (d e : ℕ) → e < slot_count i → at new d e None ≡ cond (d == c && e == s) o (at old d e None)

pub rooms_after_cell : (i : Problem) (t : List Placed) (old new : Grid (Option ℕ)) (c s : ℕ) (o : Option ℕ) → AreRooms i t old → new.rows ≡ old.rows → new.width ≡ old.width → WroteRoom i old new c s o → CellFits t c s o → AreRooms i (apply_at c s o t) new
rooms_after_cell i t old new c s o h rows width wrote fits = record {
  size = (rows ∙ h.size.0, width ∙ h.size.1);
  rooms = λ d e ld le. wrote d e le ∙ ap (cond (d == c && e == s) o) (h.rooms d e ld le) ∙ ap (λ b. cond b o (room_at d e t)) (turned d e) ∙ sym (room_after c s o d e t fits);
}
  where
    turned : (d e : ℕ) → (d == c && e == s) ≡ (c == d && s == e)
    turned d e = grind (arith, nat_tests)

-- the value of a row of the table in slot n
pub cell_is : (i : Problem) (t : List Placed) (g : Grid (Option ℕ)) (row : List (Option ℕ)) (c k n : ℕ) (x : Option ℕ) → AreRooms i t g → c < course_count i → k ≡ c → length row ≡ g.width → ((s : ℕ) (d : Option ℕ) → s < g.width → get_or row s d ≡ at g k s d) → n < length row → x ≡ get_or row n x → x ≡ room_at c n t
cell_is i t g row c k n x h known same len cells lt is =
    is ∙ sym (same_element row n None x lt) ∙ cells n None (omega (arith, lt, len)) ∙ ap (λ d. at g d n None) same ∙ h.rooms c n known (omega (arith, lt, len, h.size.1))

-- tables that are each those of a timetable
pub made : (i : Problem) (u : List Placed) (g : Tables) → Lawful i u → AreRooms i u g.rooms → AreHolders i u g.courses → AreInSlots i u g.courses_in_slot → AreCounts i u g.counts → AreTables i g × (timetable_in i g.rooms ≡ u)
made i u g lawful are_rooms are_courses are_in_slots are_counts =
    let e : u ≡ timetable_in i g.rooms = sym (shown i u g.rooms lawful.timetable are_rooms) in (
      record {
        lawful = subst (Lawful i) e lawful;
        rooms_are = subst (λ t. AreRooms i t g.rooms) e are_rooms;
        courses_are = subst (λ t. AreHolders i t g.courses) e are_courses;
        courses_in_slot_are = subst (λ t. AreInSlots i t g.courses_in_slot) e are_in_slots;
        counts_are = subst (λ t. AreCounts i t g.counts) e are_counts;
      },
      sym e,
    )

-- a lecture more
pub with_rooms : (i : Problem) (t : List Placed) (old new : Grid (Option ℕ)) (l : Placed) → AreRooms i t old → new.rows ≡ old.rows → new.width ≡ old.width → WroteRoom i old new l.course l.slot (Some l.room) → is_some (room_at l.course l.slot t) ≡ false → AreRooms i (with l t) new
with_rooms i t old new l h rows width wrote empty = rooms_after_cell i t old new l.course l.slot (Some l.room) h rows width wrote empty

-- one less
pub without_rooms : (i : Problem) (t : List Placed) (old new : Grid (Option ℕ)) (c s r : ℕ) → AreRooms i t old → new.rows ≡ old.rows → new.width ≡ old.width → WroteRoom i old new c s None → room_at c s t ≡ Some r → AreRooms i (without c s t) new
without_rooms i t old new c s r h rows width wrote there = rooms_after_cell i t old new c s None h rows width wrote (ap is_some there)

pub cost_same : (a b : Cost) → a.capacity ≡ b.capacity → a.days ≡ b.days → a.compactness ≡ b.compactness → a.stability ≡ b.stability → a ≡ b
cost_same a b e f g h =
    ap₂ (λ x y. record { capacity = x; days = y; compactness = a.compactness; stability = a.stability }) e f
    ∙ ap₂ (λ x y. record { capacity = b.capacity; days = b.days; compactness = x; stability = y }) g h

-- the costs with a lecture, and without it
pub cost_with : (i : Problem) (t u : List Placed) (j : CostDelta) → DiffersBy i t u j → with_delta (penalty i t) j ≡ penalty i u
cost_with i t u j h = cost_same (with_delta (penalty i t) j) (penalty i u) (omega (arith, h.capacity)) (omega (arith, h.days)) (omega (arith, h.compactness)) (omega (arith, h.stability))

pub cost_without : (i : Problem) (t u : List Placed) (j : CostDelta) → DiffersBy i t u j → without_delta (penalty i u) j ≡ penalty i t
cost_without i t u j h = cost_same (without_delta (penalty i u) j) (penalty i t) (omega (arith, h.capacity)) (omega (arith, h.days)) (omega (arith, h.compactness)) (omega (arith, h.stability))

-- no lecture is removed or added
pub sees_now : (i : Problem) (t : List Placed) (v : CountsAfter) (c : Counts) → Lawful i t → AreCounts i t c → v.base.now ≡ c → v.removed.items ≡ [] → v.added.items ≡ [] → Sees i v t
sees_now i t v c lawful h e1 e2 e3 = record {
  base = t;
  lawful = lawful;
  counts = subst (λ x. AreCounts i t x) (sym e1) h;
  balance = λ f. ap (λ a. sum_by f t + sum_by f a) (e2 ∙ sym e3);
}

-- the empty timetable
pub none_lawful : (i : Problem) → Lawful i []
none_lawful i = record { timetable = record { ascending = tt; fits = tt }; conflict_free = tt; allowed = tt; rooms_apart = tt; few = λ c. omega arith }

pub no_rooms : (i : Problem) (g : Grid (Option ℕ)) → HasShape g (course_count i) (slot_count i) → ((c s : ℕ) → c < course_count i → s < slot_count i → at g c s None ≡ None) → AreRooms i [] g
no_rooms i g size none = record { size = size; rooms = none }
