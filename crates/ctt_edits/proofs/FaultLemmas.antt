-- What the absence of a fault implies.
use Rattle.std.proofs.Common.{◌≡◌, ℕ, ℤ, Bool, true, false, leb, List, length, Option, Some, None, is_none, is_some, Result, Ok, refl, ap}
use Rattle.std.specs.Option.{option_map, option_or}
use Rattle.ctt_problem.specs.Problem.{Problem, course_of, is_unavailable, is_barred, is_blocked}
use Rattle.ctt_problem.specs.Timetable.{course_row}
use Rattle.ctt_problem.specs.declared.placed.Placed.{Placed}
use Rattle.ctt_board.specs.Changes.{room_at, clash_at, holder_at}
use Rattle.ctt_board.specs.Fitting.{Obstacle, already_there, course_full, unavailable, barred, blocked, clash_with, taken_by, obstacle_if, obstacle}
use Rattle.ctt_board.specs.declared.cell.Cell.{Cell}
use Rattle.ctt_board.proofs.FitLemmas.{free_there}
use Rattle.ctt_board.proofs.LawfulLemmas.{Free}
use Rattle.ctt_edits.specs.Edits.{or_else, fault_if, as_fault, try_fault, checked_by}
use Rattle.ctt_edits.specs.Looks.{priced_by}
use Rattle.ctt_edits.specs.declared.fault.EditFault.{EditFault}
use Rattle.ctt_edits.specs.declared.fault.EditFault.TheVariants.{AlreadyThere, CourseFull, Unavailable, Barred, Blocked, Clash, RoomTaken}

pub no_fault : (o : Option EditFault) → is_some o ≡ false → o ≡ None
no_fault None h = refl
no_fault (Some f) h = cc

pub or_else_none : (f g : Option EditFault) → or_else f g ≡ None → (f ≡ None) × (g ≡ None)
or_else_none None g h = (refl, h)
or_else_none (Some f) g h = cc

pub fault_if_none : (b : Bool) (f : EditFault) → fault_if b f ≡ None → b ≡ false
fault_if_none true f h = cc
fault_if_none false f h = refl

-- the faults of placing a lecture, in their order
by_obstacles : (there full closed not_for not_then : Bool) (clashing taken : Option ℕ) →
    option_map as_fault (option_or (obstacle_if there already_there) (option_or (obstacle_if full course_full) (option_or (option_or (obstacle_if closed unavailable) (option_or (obstacle_if not_for barred) (obstacle_if not_then blocked))) (option_or (option_map clash_with clashing) (option_map taken_by taken)))))
    ≡ or_else (fault_if there AlreadyThere) (or_else (fault_if full CourseFull) (or_else (or_else (fault_if closed Unavailable) (or_else (fault_if not_for Barred) (fault_if not_then Blocked))) (or_else (option_map Clash clashing) (option_map RoomTaken taken))))
by_obstacles true full closed not_for not_then clashing taken = refl
by_obstacles false true closed not_for not_then clashing taken = refl
by_obstacles false false true not_for not_then clashing taken = refl
by_obstacles false false false true not_then clashing taken = refl
by_obstacles false false false false true clashing taken = refl
by_obstacles false false false false false (Some c) taken = refl
by_obstacles false false false false false None (Some c) = refl
by_obstacles false false false false false None None = refl

pub try_is : (i : Problem) (t : List Placed) (c s r : ℕ) →
    try_fault i t c s r ≡ or_else (fault_if (is_some (room_at c s t)) AlreadyThere) (or_else (fault_if (leb (course_of i c).lectures (length (course_row c t))) CourseFull) (or_else (or_else (fault_if (is_unavailable i c s) Unavailable) (or_else (fault_if (is_barred i c r) Barred) (fault_if (is_blocked i r s) Blocked))) (or_else (option_map Clash (clash_at i c s t)) (option_map RoomTaken (holder_at s r t)))))
try_is i t c s r = by_obstacles (is_some (room_at c s t)) (leb (course_of i c).lectures (length (course_row c t))) (is_unavailable i c s) (is_barred i c r) (is_blocked i r s) (clash_at i c s t) (holder_at s r t)

none_first : (o : Option Obstacle) → option_map as_fault o ≡ None → is_none o ≡ true
none_first None h = refl
none_first (Some x) h = cc

-- a lecture that can be placed
pub free : (i : Problem) (t : List Placed) (c s r : ℕ) → try_fault i t c s r ≡ None → Free i t c s r
free i t c s r e = free_there i t c s r (none_first (obstacle i t c s r) e)

-- the price of an edit whose change is known
pub priced_is : (o : Option EditFault) (cells made : List Cell) (p : List Cell → ℤ) → ◌≡◌ {A = Result (List Cell) EditFault} (Ok made) (checked_by o cells) → ◌≡◌ {A = Result ℤ EditFault} (Ok (p made)) (priced_by o (p cells))
priced_is None cells made p e = (let same : made ≡ cells = cc in ap (λ x. Ok (p x)) same)
priced_is (Some f) cells made p e = cc
