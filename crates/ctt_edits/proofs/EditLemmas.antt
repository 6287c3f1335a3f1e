-- An edit without a fault keeps a timetable lawful, and its change fits.
use Rattle.std.proofs.Common.{◌≡◌, ℕ, ◌<◌, true, false, ◌||◌, ◌==◌, List, [], ◌∷◌, Option, Some, None, is_some, is_none, refl, ◌∙◌, ap}
use Rattle.std.proofs.lemmas.Bool.{or_parts}
use Rattle.ctt_problem.specs.Problem.{Problem, course_count, room_count, slot_count}
use Rattle.ctt_problem.specs.Timetable.{without}
use Rattle.ctt_problem.specs.declared.placed.Placed.{Placed}
use Rattle.ctt_rules.specs.Hard.{Lawful}
use Rattle.ctt_board.specs.Changes.{room_at, cell, apply_at, CellFits, CellsFit}
use Rattle.ctt_board.proofs.BetweenLemmas.{there_fits}
use Rattle.ctt_board.proofs.RoomLemmas.{room_after}
use Rattle.ctt_edits.specs.Edits.{or_else, fault_if, try_fault, try_room_of, edit_fault, change}
use Rattle.ctt_edits.specs.EditLaws.{EditsKeepLawful, EditsFit}
use Rattle.ctt_edits.specs.declared.edit.Edit.{Edit}
use Rattle.ctt_edits.specs.declared.edit.Edit.TheVariants.{Place, Move, Swap, Reroom, Drop}
use Rattle.ctt_edits.specs.declared.fault.EditFault.{EditFault}
use Rattle.ctt_edits.specs.declared.fault.EditFault.TheVariants.{NotPlaced, SameSlot, SameCourse}
use Rattle.ctt_edits.proofs.FaultLemmas.{free, fault_if_none, or_else_none}
use Rattle.ctt_board.proofs.LawfulLemmas.{with_lawful, without_lawful}

pub is_there : (o : Option ℕ) → is_none o ≡ false → is_some o ≡ true
is_there None h = cc
is_there (Some r) h = refl

-- the room of a lecture is one of the instance
pub room_fits : (i : Problem) (t : List Placed) (c s r : ℕ) → Lawful i t → room_at c s t ≡ Some r → r < room_count i
room_fits i t c s r h e = (there_fits i c s r t h e).2

-- the lecture of another course stays
stays : (t : List Placed) (c s d s2 : ℕ) → is_some (room_at c s t) ≡ true → (c == d) ≡ false → room_at d s2 (without c s t) ≡ room_at d s2 t
stays t c s d s2 there apart = room_after c s None d s2 t there ∙ rw apart refl

pub removals_fit : (t : List Placed) (c s d s2 : ℕ) → is_some (room_at c s t) ≡ true → is_some (room_at d s2 t) ≡ true → (c == d) ≡ false → CellsFit (cell c s None ∷ cell d s2 None ∷ []) t
removals_fit t c s d s2 there other_there apart = (there, (ap is_some (stays t c s d s2 there apart) ∙ other_there, tt))

-- a lecture that can be placed in the room of another
try_lawful : (i : Problem) (t : List Placed) (c s : ℕ) (o : Option ℕ) → Lawful i t → c < course_count i → s < slot_count i → ((r : ℕ) → o ≡ Some r → r < room_count i) → try_room_of i t c s o ≡ None → Lawful i (apply_at c s o t)
try_lawful i t c s None h cf sf rf e = without_lawful i t c s h
try_lawful i t c s (Some r) h cf sf rf e = with_lawful i t c s r h (cf, sf, rf r refl) (free i t c s r e)

try_fits : (i : Problem) (t : List Placed) (c s : ℕ) (o : Option ℕ) → is_some o ≡ true → try_room_of i t c s o ≡ None → CellFits t c s o
try_fits i t c s None h e = cc
try_fits i t c s (Some r) h e = (free i t c s r e).empty

-- a move, a swap and another room that have no fault
record Moves (i : Problem) (t : List Placed) (c s s2 r : ℕ) : Type 0 where
  there : is_some (room_at c s t) ≡ true
  tried : try_fault i (without c s t) c s2 r ≡ None

moves : (i : Problem) (t : List Placed) (c s s2 r : ℕ) → edit_fault i t (Move c s s2 r) ≡ None → Moves i t c s s2 r
moves i t c s s2 r e =
    let tried : Option EditFault = try_fault i (without c s t) c s2 r in
    let e1 = or_else_none (fault_if (is_none (room_at c s t)) NotPlaced) (or_else (fault_if (s == s2) SameSlot) tried) e in
    record { there = is_there (room_at c s t) (fault_if_none (is_none (room_at c s t)) NotPlaced e1.0); tried = (or_else_none (fault_if (s == s2) SameSlot) tried e1.1).1 }

record Swaps (i : Problem) (t : List Placed) (c s d s2 : ℕ) : Type 0 where
  there : is_some (room_at c s t) ≡ true
  other_there : is_some (room_at d s2 t) ≡ true
  apart : (c == d) ≡ false
  first : try_room_of i (without d s2 (without c s t)) c s2 (room_at d s2 t) ≡ None
  second : try_room_of i (apply_at c s2 (room_at d s2 t) (without d s2 (without c s t))) d s (room_at c s t) ≡ None

swaps : (i : Problem) (t : List Placed) (c s d s2 : ℕ) → edit_fault i t (Swap c s d s2) ≡ None → Swaps i t c s d s2
swaps i t c s d s2 e =
    let first : Option EditFault = try_room_of i (without d s2 (without c s t)) c s2 (room_at d s2 t) in
    let second : Option EditFault = try_room_of i (apply_at c s2 (room_at d s2 t) (without d s2 (without c s t))) d s (room_at c s t) in
    let e1 = or_else_none (fault_if (is_none (room_at c s t) || is_none (room_at d s2 t)) NotPlaced) (or_else (fault_if (c == d) SameCourse) (or_else first second)) e in
    let e2 = or_else_none (fault_if (c == d) SameCourse) (or_else first second) e1.1 in
    let e3 = or_else_none first second e2.1 in
    let both = or_parts (is_none (room_at c s t)) (is_none (room_at d s2 t)) (fault_if_none (is_none (room_at c s t) || is_none (room_at d s2 t)) NotPlaced e1.0) in
    record {
      there = is_there (room_at c s t) both.0;
      other_there = is_there (room_at d s2 t) both.1;
      apart = fault_if_none (c == d) SameCourse e2.0;
      first = e3.0;
      second = e3.1;
    }

record Rerooms (i : Problem) (t : List Placed) (c s r : ℕ) : Type 0 where
  there : is_some (room_at c s t) ≡ true
  tried : try_fault i (without c s t) c s r ≡ None

rerooms : (i : Problem) (t : List Placed) (c s r : ℕ) → edit_fault i t (Reroom c s r) ≡ None → Rerooms i t c s r
rerooms i t c s r e =
    let e1 = or_else_none (fault_if (is_none (room_at c s t)) NotPlaced) (try_fault i (without c s t) c s r) e in
    record { there = is_there (room_at c s t) (fault_if_none (is_none (room_at c s t)) NotPlaced e1.0); tried = e1.1 }

pub edits_keep_lawful : EditsKeepLawful
edits_keep_lawful i t (Place c s r) h f e = with_lawful i t c s r h f (free i t c s r e)
edits_keep_lawful i t (Move c s s2 r) h f e = with_lawful i (without c s t) c s2 r (without_lawful i t c s h) (f.0, f.2, f.3) (free i (without c s t) c s2 r (moves i t c s s2 r e).tried)
edits_keep_lawful i t (Swap c s d s2) h f e =
    let w : Swaps i t c s d s2 = swaps i t c s d s2 e in
    let gone : List Placed = without d s2 (without c s t) in
    let first : Lawful i (apply_at c s2 (room_at d s2 t) gone) =
    try_lawful i gone c s2 (room_at d s2 t) (without_lawful i (without c s t) d s2 (without_lawful i t c s h)) f.0 f.3 (λ r k. room_fits i t d s2 r h k) w.first in
    try_lawful i (apply_at c s2 (room_at d s2 t) gone) d s (room_at c s t) first f.2 f.1 (λ r k. room_fits i t c s r h k) w.second
edits_keep_lawful i t (Reroom c s r) h f e = with_lawful i (without c s t) c s r (without_lawful i t c s h) f (free i (without c s t) c s r (rerooms i t c s r e).tried)
edits_keep_lawful i t (Drop c s) h f e = without_lawful i t c s h

cells_fit : (i : Problem) (t : List Placed) (e : Edit) → edit_fault i t e ≡ None → CellsFit (change t e) t
cells_fit i t (Place c s r) e = ((free i t c s r e).empty, tt)
cells_fit i t (Move c s s2 r) e = let w : Moves i t c s s2 r = moves i t c s s2 r e in (w.there, ((free i (without c s t) c s2 r w.tried).empty, tt))
cells_fit i t (Swap c s d s2) e =
    let w : Swaps i t c s d s2 = swaps i t c s d s2 e in
    let gone : List Placed = without d s2 (without c s t) in
    let removed = removals_fit t c s d s2 w.there w.other_there w.apart in
    (removed.0, (removed.1.0, (try_fits i gone c s2 (room_at d s2 t) w.other_there w.first, (try_fits i (apply_at c s2 (room_at d s2 t) gone) d s (room_at c s t) w.there w.second, tt))))
cells_fit i t (Reroom c s r) e = let w : Rerooms i t c s r = rerooms i t c s r e in (w.there, ((free i (without c s t) c s r w.tried).empty, tt))
cells_fit i t (Drop c s) e = (is_there (room_at c s t) (fault_if_none (is_none (room_at c s t)) NotPlaced e), tt)

pub edits_fit : EditsFit
edits_fit i t e h f k = record { cells_fit = cells_fit i t e k; lawful = edits_keep_lawful i t e h f k }
