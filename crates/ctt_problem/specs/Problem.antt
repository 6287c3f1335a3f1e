-- An instance of the problem, as the rules see it.
use Rattle.std.specs.Prelude.{ℕ, ◌*◌, ◌+◌, ◌≤◌, ◌<◌, ◌≡◌, Bool, false, List, [], length, map, filter, get_or, ◌==◌, ◌&&◌, ◌||◌, not, ◌/◌, ◌%◌, nat_lt, Option, Some, None, if◌then◌else◌}
use Rattle.std.specs.List.{list_any, position_or_len, range_with_len, AllByRecursion as Each}
use Rattle.std.specs.Str.{bytes_eq}
use Rattle.ctt_problem.specs.Lists.{has, each_once, Pairwise}
use Rattle.ctt_problem.specs.declared.course_facts.CourseFacts.{CourseFacts}

-- Courses, rooms, teachers and curricula are numbered by their indices in these lists. A name is a
-- list of bytes.
pub record Problem : Type 0 where
  pub name : List ℕ
  pub course_names : List (List ℕ)
  pub courses : List CourseFacts
  pub teacher_names : List (List ℕ)
  pub room_names : List (List ℕ)
  pub capacities : List ℕ  -- of the rooms
  pub curriculum_names : List (List ℕ)
  pub curricula : List (List ℕ)  -- the members of each
  pub days : ℕ
  pub periods : ℕ  -- per day
  pub unavailable : List Bool  -- for each course in turn, for each slot in turn
  pub closed : List Bool  -- by closures: for each course in turn, for each slot in turn
  pub barred : List Bool  -- for each course in turn, for each room in turn
  pub blocked : List Bool  -- for each room in turn, for each slot in turn

abbrev pub course_of : Problem → ℕ → CourseFacts
course_of i c = get_or i.courses c (record { teacher = 0; lectures = 0; min_days = 0; students = 0 })

abbrev pub capacity_of : Problem → ℕ → ℕ
capacity_of i r = get_or i.capacities r 0

abbrev pub members : Problem → ℕ → List ℕ
members i q = get_or i.curricula q []

abbrev pub course_count : Problem → ℕ
course_count i = length i.courses

abbrev pub room_count : Problem → ℕ
room_count i = length i.capacities

abbrev pub teacher_count : Problem → ℕ
teacher_count i = length i.teacher_names

abbrev pub curriculum_count : Problem → ℕ
curriculum_count i = length i.curricula

abbrev pub slot_count : Problem → ℕ
slot_count i = i.days * i.periods

-- slots are numbered day by day
abbrev pub slot_of : Problem → ℕ → ℕ → ℕ
slot_of i day period = day * i.periods + period

abbrev pub day_of : Problem → ℕ → ℕ
day_of i s = s / i.periods

abbrev pub period_of : Problem → ℕ → ℕ
period_of i s = s % i.periods

-- the two courses are members of one curriculum
abbrev pub mates : Problem → ℕ → ℕ → Bool
mates i c d = list_any (λ q. has c q && has d q) i.curricula

-- two different courses that have the same teacher or are members of one curriculum
abbrev pub clash : Problem → ℕ → ℕ → Bool
clash i c d = not (c == d) && ((course_of i c).teacher == (course_of i d).teacher || mates i c d)

-- the course is unavailable in the slot: as the text of the instance lists it, or by a closure of
-- the course or of its teacher
abbrev pub is_unavailable : Problem → ℕ → ℕ → Bool
is_unavailable i c s = nat_lt s (slot_count i) && (get_or i.unavailable (c * slot_count i + s) false || get_or i.closed (c * slot_count i + s) false)

-- a closure blocks the course in the slot, or its teacher
abbrev pub is_closed : Problem → ℕ → ℕ → Bool
is_closed i c s = nat_lt s (slot_count i) && get_or i.closed (c * slot_count i + s) false

-- the room is barred for the course
abbrev pub is_barred : Problem → ℕ → ℕ → Bool
is_barred i c r = nat_lt r (room_count i) && get_or i.barred (c * room_count i + r) false

-- some room is barred for some course
abbrev pub has_barred : Problem → Bool
has_barred i = list_any (λ b. b) i.barred

-- the room is blocked in the slot
abbrev pub is_blocked : Problem → ℕ → ℕ → Bool
is_blocked i r s = nat_lt s (slot_count i) && get_or i.blocked (r * slot_count i + s) false

-- some room is blocked in some slot
abbrev pub has_blocked : Problem → Bool
has_blocked i = list_any (λ b. b) i.blocked

-- whether a word is one of the names
abbrev pub is_among : List (List ℕ) → List ℕ → Bool
is_among names word = list_any (bytes_eq word) names

-- the number of a name that is one of them
abbrev pub place_of : List (List ℕ) → List ℕ → ℕ
place_of names word = position_or_len (bytes_eq word) names

-- the number of a name, if it is one of them
abbrev pub number_in : List (List ℕ) → List ℕ → Option ℕ
number_in names word = if is_among names word then Some (place_of names word) else None

-- a number that a text can contain
abbrev pub IsSmall : ℕ → Type 0
IsSmall n = n ≤ 999999999

-- the facts of a course are in range, for this number of teachers
abbrev pub IsCourseFacts : ℕ → CourseFacts → Type 0
IsCourseFacts teachers c = (c.teacher < teachers) × IsSmall c.lectures × IsSmall c.min_days × IsSmall c.students

-- the members of a curriculum are known courses, each once
abbrev pub AreMembers : ℕ → List ℕ → Type 0
AreMembers courses q = Each (λ c. c < courses) q × Pairwise (λ c d. (c == d) ≡ false) q

-- the teachers of the courses, each once, in the order in which they are first named
abbrev pub teachers_named : Problem → List ℕ
teachers_named i = each_once ◌==◌ (map (λ c. c.teacher) i.courses)

-- the limits of the format, and the other invariants of an instance
pub record IsProblem (i : Problem) : Type 0 where
  pub courses_few : length i.courses ≤ 2000
  pub rooms_few : length i.capacities ≤ 1000
  pub curricula_few : length i.curricula ≤ 20000
  pub teachers_few : length i.teacher_names ≤ length i.courses
  pub days_few : i.days ≤ 2000
  pub periods_few : i.periods ≤ 2000
  pub slots_few : i.days * i.periods ≤ 2000
  pub marked : length i.unavailable ≡ length i.courses * (i.days * i.periods)
  pub closures_marked : length i.closed ≡ length i.courses * (i.days * i.periods)
  pub rooms_marked : length i.barred ≡ length i.courses * length i.capacities
  pub rooms_blocked : length i.blocked ≡ length i.capacities * (i.days * i.periods)
  pub courses_named : length i.course_names ≡ length i.courses
  pub rooms_named : length i.room_names ≡ length i.capacities
  pub curricula_named : length i.curriculum_names ≡ length i.curricula
  pub courses : Each (IsCourseFacts (length i.teacher_names)) i.courses
  pub capacities : Each IsSmall i.capacities
  pub curricula : Each (AreMembers (length i.courses)) i.curricula
  -- each teacher has a course, and their numbers ascend as they are first named
  pub teachers_seen : teachers_named i ≡ range_with_len 0 (length i.teacher_names)
  -- the pairs of a course and a slot in which the text of the instance lists it as unavailable
  pub pairs_few : length (filter (λ b. b) i.unavailable) ≤ 2000000
