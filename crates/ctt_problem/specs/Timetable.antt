-- A timetable is a list of lectures, strictly ascending by course and slot.
use Rattle.std.specs.Prelude.{ℕ, ◌<◌, ◌+◌, ◌≡◌, Bool, true, List, length, get_or, filter, ◌==◌, nat_lt, ◌&&◌, ◌||◌, not}
use Rattle.std.specs.List.{list_any, AllByRecursion as Each}
use Rattle.ctt_problem.specs.Lists.{Pairwise, put}
use Rattle.ctt_problem.specs.Problem.{Problem, course_count, slot_count, room_count}
use Rattle.ctt_problem.specs.declared.placed.Placed.{Placed}

-- the order of a timetable: by course, then by slot
abbrev pub before : Placed → Placed → Bool
before a b = nat_lt a.course b.course || (a.course == b.course && nat_lt a.slot b.slot)

abbrev pub Ascending : List Placed → Type 0
Ascending t = Pairwise (λ a b. before a b ≡ true) t

-- the numbers of the lecture are in range
abbrev pub Fits : Problem → Placed → Type 0
Fits i l = (l.course < course_count i) × (l.slot < slot_count i) × (l.room < room_count i)

pub record IsTimetable (i : Problem) (t : List Placed) : Type 0 where
  pub ascending : Ascending t
  pub fits : Each (Fits i) t

-- an equivalent of IsTimetable by neighbours: each lecture is in range, and comes after the
-- previous one
pub record ByNeighbours (i : Problem) (t : List Placed) : Type 0 where
  pub fits : (k : ℕ) (d : Placed) → k < length t → Fits i (get_or t k d)
  pub ascending : (k : ℕ) (d : Placed) → k + 1 < length t → before (get_or t k d) (get_or t (k + 1) d) ≡ true

-- the lectures of a course
abbrev pub course_row : ℕ → List Placed → List Placed
course_row c t = filter (λ l. l.course == c) t

-- the lectures in a slot
abbrev pub slot_row : ℕ → List Placed → List Placed
slot_row s t = filter (λ l. l.slot == s) t

-- the course has a lecture in the slot
abbrev pub has_lecture : ℕ → ℕ → List Placed → Bool
has_lecture c s t = list_any (λ l. l.course == c && l.slot == s) t

-- the timetable with one more lecture, inserted in order
abbrev pub with : Placed → List Placed → List Placed
with l t = put before l t

-- the timetable without the lecture of a course in a slot
abbrev pub without : ℕ → ℕ → List Placed → List Placed
without c s t = filter (λ l. not (l.course == c && l.slot == s)) t

-- every test passes for some lecture of both lists or of neither
abbrev pub SameLectures : List Placed → List Placed → Type 0
SameLectures ls ms = (wanted : Placed → Bool) → list_any wanted ls ≡ list_any wanted ms
