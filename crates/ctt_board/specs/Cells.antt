-- A timetable by the room, if any, of each course in each slot.
use Rattle.std.specs.Prelude.{ℕ, zero, suc, List, [], ◌∷◌, ◌++◌, Option, Some, None}
use Rattle.ctt_problem.specs.declared.placed.Placed.{Placed}

-- the lecture of course c in slot s, if a room is given, as a list
abbrev pub lecture_at : ℕ → ℕ → Option ℕ → List Placed
lecture_at c s None = []
lecture_at c s (Some r) = record { course = c; slot = s; room = r } ∷ []

-- the lectures of course c in the slots below n, if f gives its room in each slot
abbrev pub row_below : (ℕ → Option ℕ) → ℕ → ℕ → List Placed
row_below f c zero = []
row_below f c (suc n) = row_below f c n ++ lecture_at c n (f n)

-- the lectures of the courses below n in the slots below m, if f gives the rooms
abbrev pub rows_below : (ℕ → ℕ → Option ℕ) → ℕ → ℕ → List Placed
rows_below f m zero = []
rows_below f m (suc n) = rows_below f m n ++ row_below (f n) n m

-- the lectures in slot s of the courses below n, if f gives the rooms
abbrev pub column_below : (ℕ → Option ℕ) → ℕ → ℕ → List Placed
column_below f s zero = []
column_below f s (suc n) = column_below f s n ++ lecture_at n s (f n)
