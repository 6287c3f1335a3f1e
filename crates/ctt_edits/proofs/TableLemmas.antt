-- The fault and the change of an edit give what the table of edits gives.
use Rattle.std.proofs.Common.{◌≡◌, ℕ, Bool, true, false, cond, ◌||◌, ◌==◌, List, Option, Some, None, is_none, Ok, Err, refl, ◌∙◌, ap, ap₂}
use Rattle.ctt_problem.specs.Problem.{Problem}
use Rattle.ctt_problem.specs.Timetable.{with, without}
use Rattle.ctt_problem.specs.declared.placed.Placed.{Placed}
use Rattle.ctt_board.specs.Changes.{room_at, apply_at}
use Rattle.ctt_edits.specs.Edits.{or_else, fault_if, try_fault, try_room_of, edited}
use Rattle.ctt_edits.specs.EditLaws.{EditIsTable}
use Rattle.ctt_edits.specs.Table.{unless, then_try, exchange}
use Rattle.ctt_edits.specs.declared.edit.Edit.TheVariants.{Place, Move, Swap, Reroom, Drop}
use Rattle.ctt_edits.specs.declared.fault.EditFault.{EditFault}
use Rattle.ctt_edits.specs.declared.fault.EditFault.TheVariants.{NotPlaced, SameSlot, SameCourse}

-- a test before other faults, and the last one
first_fault : (b : Bool) (f : EditFault) (g : Option EditFault) (t : List Placed) → unless (or_else (fault_if b f) g) t ≡ cond b (Err f) (unless g t)
first_fault true f g t = refl
first_fault false f g t = refl

last_fault : (b : Bool) (f : EditFault) (t : List Placed) → unless (fault_if b f) t ≡ cond b (Err f) (Ok t)
last_fault true f t = refl
last_fault false f t = refl

-- one trial after another one
both_tries : (i : Problem) (f g : Option EditFault) (t u : List Placed) (c s r : ℕ) → g ≡ try_fault i t c s r → u ≡ with (record { course = c; slot = s; room = r }) t → unless (or_else f g) u ≡ then_try i (unless f t) c s r
both_tries i None g t u c s r e k = ap₂ unless e k
both_tries i (Some f) g t u c s r e k = refl

exchange_is : (i : Problem) (t : List Placed) (c s d s2 : ℕ) (x y : Option ℕ) →
    unless (or_else (fault_if (is_none x || is_none y) NotPlaced) (or_else (fault_if (c == d) SameCourse) (or_else (try_room_of i (without d s2 (without c s t)) c s2 y) (try_room_of i (apply_at c s2 y (without d s2 (without c s t))) d s x))))
    (apply_at d s x (apply_at c s2 y (without d s2 (without c s t)))) ≡ exchange i t c s d s2 x y
exchange_is i t c s d s2 None y = refl
exchange_is i t c s d s2 (Some r) None = refl
exchange_is i t c s d s2 (Some r) (Some r2) =
    let gone : List Placed = without d s2 (without c s t) in
    let first : List Placed = with (record { course = c; slot = s2; room = r2 }) gone in
    let second : List Placed = with (record { course = d; slot = s; room = r }) first in
    first_fault (c == d) SameCourse (or_else (try_fault i gone c s2 r2) (try_fault i first d s r)) second
    ∙ ap (λ x. cond (c == d) (Err SameCourse) x) (both_tries i (try_fault i gone c s2 r2) (try_fault i first d s r) first second d s r refl refl)

pub edit_is_table : EditIsTable
edit_is_table i t (Place c s r) = refl
edit_is_table i t (Move c s s2 r) =
    first_fault (is_none (room_at c s t)) NotPlaced (or_else (fault_if (s == s2) SameSlot) (try_fault i (without c s t) c s2 r)) (edited t (Move c s s2 r))
    ∙ ap (λ x. cond (is_none (room_at c s t)) (Err NotPlaced) x) (first_fault (s == s2) SameSlot (try_fault i (without c s t) c s2 r) (edited t (Move c s s2 r)))
edit_is_table i t (Swap c s d s2) = exchange_is i t c s d s2 (room_at c s t) (room_at d s2 t)
edit_is_table i t (Reroom c s r) = first_fault (is_none (room_at c s t)) NotPlaced (try_fault i (without c s t) c s r) (edited t (Reroom c s r))
edit_is_table i t (Drop c s) = last_fault (is_none (room_at c s t)) NotPlaced (edited t (Drop c s))
