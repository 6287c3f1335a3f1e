-- The form of the text of an instance: its places in order, each with its rule and its faults.
use Rattle.std.specs.Prelude.{ℕ, ◌+◌, ◌*◌, List, [], ◌∷◌, ◌++◌, length, Bool, true, false, ◌&&◌, nat_lt, nat_le, ◌==◌, codes, replicate, Result}
use Rattle.std.specs.List.{slice_set}
use Rattle.std.specs.Str.{bytes_eq}
use Rattle.ctt_text.specs.declared.fault.ReadFault.{ReadFault}
use Rattle.ctt_text.specs.declared.fault.ReadFault.TheVariants.{Missing, Expected, BadNumber, TooLarge, RepeatedName, UnknownCourse, DayOut, PeriodOut, NoMemory}
use Rattle.ctt_problem.specs.declared.course_facts.CourseFacts.{CourseFacts}
use Rattle.ctt_text.specs.Left.{Left}
use Rattle.ctt_text.specs.Forms.{Form, done, ◌>>=◌, times}
use Rattle.ctt_text.specs.Places.{any, fixed, number, number_if, new_name, known_name, after}
use Rattle.ctt_problem.specs.Problem.{Problem, place_of}
use Rattle.ctt_text.specs.Reading.{Gives, reading}
use Rattle.ctt_problem.specs.Lists.{with_new}

-- the name and the counts of the header
pub record Header : Type 0 where
  pub name : List ℕ
  pub courses : ℕ
  pub rooms : ℕ
  pub days : ℕ
  pub periods : ℕ
  pub curricula : ℕ
  pub constraints : ℕ

-- the courses so far, and the names of their teachers
pub record Courses : Type 0 where
  pub names : List (List ℕ)
  pub facts : List CourseFacts
  pub teachers : List (List ℕ)

pub record Rooms : Type 0 where
  pub names : List (List ℕ)
  pub capacities : List ℕ

pub record Curricula : Type 0 where
  pub names : List (List ℕ)
  pub members : List (List ℕ)

-- a number up to a limit
unfoldable pub number_up_to : ℕ → Form ReadFault ℕ
number_up_to greatest = number_if BadNumber (λ n. nat_le n greatest) TooLarge

-- the number of periods per day, which also limits the number of slots
unfoldable pub period_count : ℕ → Form ReadFault ℕ
period_count days = number_if BadNumber (λ n. nat_le n 2000 && nat_le (days * n) 2000) TooLarge

-- two numbers, each after its label
unfoldable pub two_counts : List ℕ → ℕ → List ℕ → ℕ → Form ReadFault (ℕ × ℕ)
two_counts first_label first_greatest second_label second_greatest = do
  first ← after Expected first_label (number_up_to first_greatest)
  second ← after Expected second_label (number_up_to second_greatest)
  done (first, second)

-- the number of days, and of periods per day
unfoldable pub calendar : Form ReadFault (ℕ × ℕ)
calendar = do
  days ← after Expected (codes "Days:") (number_up_to 2000)
  periods ← after Expected (codes "Periods_per_day:") (period_count days)
  done (days, periods)

unfoldable pub header : Form ReadFault Header
header = do
  name ← after Expected (codes "Name:") any
  places ← two_counts (codes "Courses:") 2000 (codes "Rooms:") 1000
  times ← calendar
  lists ← two_counts (codes "Curricula:") 20000 (codes "Constraints:") 2000000
  done (record { name = name; courses = places.0; rooms = places.1; days = times.0; periods = times.1; curricula = lists.0; constraints = lists.1 })

unfoldable pub course : Courses → Form ReadFault Courses
course so_far = do
  name ← new_name RepeatedName so_far.names
  teacher ← any
  lectures ← number BadNumber
  min_days ← number BadNumber
  students ← number BadNumber
  let facts : CourseFacts = record { teacher = place_of so_far.teachers teacher; lectures = lectures; min_days = min_days; students = students }
  done (record { names = so_far.names ++ name ∷ []; facts = so_far.facts ++ facts ∷ []; teachers = with_new bytes_eq so_far.teachers teacher })

unfoldable pub room : Rooms → Form ReadFault Rooms
room so_far = do
  name ← new_name RepeatedName so_far.names
  capacity ← number BadNumber
  done (record { names = so_far.names ++ name ∷ []; capacities = so_far.capacities ++ capacity ∷ [] })

unfoldable pub member : List (List ℕ) → List ℕ → Form ReadFault (List ℕ)
member courses so_far = do
  number ← known_name UnknownCourse courses
  done (with_new ◌==◌ so_far number)

unfoldable pub curriculum : List (List ℕ) → Curricula → Form ReadFault Curricula
curriculum courses so_far = do
  name ← new_name RepeatedName so_far.names
  count ← number BadNumber
  members ← times (member courses) count []
  done (record { names = so_far.names ++ name ∷ []; members = so_far.members ++ members ∷ [] })

-- a day below the number of days
unfoldable pub day_below : ℕ → Form ReadFault ℕ
day_below days = number_if BadNumber (λ n. nat_lt n days) DayOut

-- a period below the number of periods per day
unfoldable pub period_below : ℕ → Form ReadFault ℕ
period_below periods = number_if BadNumber (λ n. nat_lt n periods) PeriodOut

unfoldable pub unavailability : List (List ℕ) → ℕ → ℕ → List Bool → Form ReadFault (List Bool)
unavailability courses days periods so_far = do
  number ← known_name UnknownCourse courses
  day ← day_below days
  period ← period_below periods
  done (slice_set so_far (number * (days * periods) + (day * periods + period)) true)

abbrev pub no_courses : Courses
no_courses = record { names = []; facts = []; teachers = [] }

abbrev pub no_rooms : Rooms
no_rooms = record { names = []; capacities = [] }

abbrev pub no_curricula : Curricula
no_curricula = record { names = []; members = [] }

-- no course is unavailable in any slot
abbrev pub all_available : Header → List Bool
all_available head = replicate (head.courses * (head.days * head.periods)) false

abbrev pub problem_of : Header → Courses → Rooms → Curricula → List Bool → Problem
problem_of head courses rooms curricula unavailable = record {
  name = head.name;
  course_names = courses.names;
  courses = courses.facts;
  teacher_names = courses.teachers;
  room_names = rooms.names;
  capacities = rooms.capacities;
  curriculum_names = curricula.names;
  curricula = curricula.members;
  days = head.days;
  periods = head.periods;
  unavailable = unavailable;
  closed = replicate (length courses.facts * (head.days * head.periods)) false;
  barred = replicate (length courses.facts * length rooms.capacities) false;
  blocked = replicate (length rooms.capacities * (head.days * head.periods)) false;
}

unfoldable pub instance : Form ReadFault Problem
instance = do
  head ← header
  courses ← after Expected (codes "COURSES:") (times course head.courses no_courses)
  rooms ← after Expected (codes "ROOMS:") (times room head.rooms no_rooms)
  curricula ← after Expected (codes "CURRICULA:") (times (curriculum courses.names) head.curricula no_curricula)
  unavailable ← after Expected (codes "UNAVAILABILITY_CONSTRAINTS:") (times (unavailability courses.names head.days head.periods) head.constraints (all_available head))
  end ← fixed Expected (codes "END.")
  done (problem_of head courses rooms curricula unavailable)

-- the fault of a missing word
abbrev pub missing : ℕ → ReadFault
missing k = Missing k

-- whether the fault is that memory ran out
abbrev pub wants_memory : ReadFault → Bool
wants_memory NoMemory = true
wants_memory _ = false

-- parsing the rest of the text of an instance by a form
abbrev pub reads : {A : Type 0} → Form ReadFault A → Left → Result (A × Left) ReadFault
reads form left = reading missing form left

-- The result of a parsing function is what its form gives, unless memory runs out.
abbrev pub GivesRead : {X Y : Type 0} → (X → Y) → Result X ReadFault → Result Y ReadFault → Type 0
GivesRead view result read = Gives wants_memory view result read
