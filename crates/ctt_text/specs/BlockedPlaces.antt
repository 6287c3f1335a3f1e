-- The form of the text of closures: its places in order, each with its rule and its faults.
use Rattle.std.specs.Prelude.{ℕ, ◌*◌, ◌/◌, ◌%◌, ◌<◌, List, length, map, get_or, Bool, true, false, ◌==◌, ◌&&◌, ◌||◌, nat_lt, codes, replicate, Option, Some, None, IfSome, Result, if◌then◌else◌}
use Rattle.std.specs.List.{range_with_len}
use Rattle.std.specs.Str.{bytes_eq}
use Rattle.ctt_text.specs.declared.fault.BlockedFault.{BlockedFault}
use Rattle.ctt_text.specs.declared.fault.BlockedFault.TheVariants.{Missing, Expected, BadNumber, TooLarge, UnknownName, DayOut, PeriodOut, NoMemory}
use Rattle.ctt_text.specs.declared.instance.closing.Kind.{Kind}
use Rattle.ctt_text.specs.declared.instance.closing.Kind.TheVariants.{Room, Teacher, Course}
use Rattle.ctt_text.specs.declared.instance.closing.Closing.{Closing}
use Rattle.ctt_text.specs.declared.instance.closing.Tables.{Tables}
use Rattle.ctt_text.specs.Left.{Left}
use Rattle.ctt_text.specs.Forms.{Form, done, ◌>>=◌}
use Rattle.ctt_text.specs.Places.{known, known_name, choice_if}
use Rattle.ctt_text.specs.SideFile.{side_file}
use Rattle.ctt_problem.specs.BitRows.{marks_of, HasSize}
use Rattle.ctt_problem.specs.Problem.{Problem, course_of, course_count, room_count, teacher_count, slot_count, day_of, period_of}
use Rattle.ctt_text.specs.Reading.{Gives, reading}

-- what the entries close
pub record Closures : Type 0 where
  pub closed : List Bool  -- for each course in turn, for each slot in turn
  pub blocked : List Bool  -- for each room in turn, for each slot in turn

-- the kind that a word states
abbrev pub kind_of : List ℕ → Option Kind
kind_of word = if bytes_eq word (codes "room") then Some Room else (if bytes_eq word (codes "teacher") then Some Teacher else (if bytes_eq word (codes "course") then Some Course else None))

-- the names of a kind
abbrev pub names_of : Problem → Kind → List (List ℕ)
names_of i Room = i.room_names
names_of i Teacher = i.teacher_names
names_of i Course = i.course_names

-- how many there are of a kind
abbrev pub count_of : Problem → Kind → ℕ
count_of i Room = room_count i
count_of i Teacher = teacher_count i
count_of i Course = course_count i

-- an entry: its kind, the number of what it names, and a day and a period, or all of them
unfoldable pub closing : Problem → Form BlockedFault Closing
closing i = do
  kind ← known Expected kind_of Room
  number ← known_name UnknownName (names_of i kind)
  day ← choice_if BadNumber (λ n. nat_lt n i.days) DayOut
  period ← choice_if BadNumber (λ n. nat_lt n i.periods) PeriodOut
  done (record { kind = kind; number = number; day = day; period = period })

-- what an entry names is in range
pub record IsClosing (i : Problem) (e : Closing) : Type 0 where
  pub number : e.number < count_of i e.kind
  pub day : IfSome e.day (λ n. n < i.days)
  pub period : IfSome e.period (λ n. n < i.periods)

-- the number is the one chosen, or all are
abbrev pub is_chosen : Option ℕ → ℕ → Bool
is_chosen None n = true
is_chosen (Some m) n = n == m

-- the slot is on the day and in the period of the entry
abbrev pub covers_slot : Problem → Closing → ℕ → Bool
covers_slot i e s = is_chosen e.day (day_of i s) && is_chosen e.period (period_of i s)

-- the course, or its teacher, has this kind and number
abbrev pub is_of_course : Problem → Kind → ℕ → ℕ → Bool
is_of_course i Room number c = false
is_of_course i Teacher number c = (course_of i c).teacher == number
is_of_course i Course number c = c == number

-- the room has this kind and number
abbrev pub is_of_room : Kind → ℕ → ℕ → Bool
is_of_room Room number r = r == number
is_of_room Teacher number r = false
is_of_room Course number r = false

-- the table of rows of `width` marks, with the marks that pass the tests in addition
unfoldable pub with_marks : ℕ → (ℕ → Bool) → (ℕ → Bool) → List Bool → List Bool
with_marks width row column table = map (λ k. get_or table k false || (row (k / width) && column (k % width))) (range_with_len 0 (length table))

-- what is closed so far, and what the entry closes in addition
abbrev pub with_closing : Problem → Closures → Closing → Closures
with_closing i so_far e = record {
  closed = with_marks (slot_count i) (is_of_course i e.kind e.number) (covers_slot i e) so_far.closed;
  blocked = with_marks (slot_count i) (is_of_room e.kind e.number) (covers_slot i e) so_far.blocked;
}

-- an entry, which closes its slots in addition to those so far
unfoldable pub blocked_entry : Problem → Closures → Form BlockedFault Closures
blocked_entry i so_far = do
  e ← closing i
  done (with_closing i so_far e)

-- nothing is closed
abbrev pub none_closed : Problem → Closures
none_closed i = record {
  closed = replicate (course_count i * slot_count i) false;
  blocked = replicate (room_count i * slot_count i) false;
}

-- the whole text
unfoldable pub closures : Problem → Form BlockedFault Closures
closures i = side_file Expected BadNumber TooLarge (codes "Blocked:") (blocked_entry i) (none_closed i)

-- the tables of the code have the sizes of the instance
pub record AreTablesOf (i : Problem) (t : Tables) : Type 0 where
  pub closed : HasSize t.closed (course_count i) (slot_count i)
  pub blocked : HasSize t.blocked (room_count i) (slot_count i)

-- what the tables of the code mark
abbrev pub closures_in : Tables → Closures
closures_in t = record { closed = marks_of t.closed; blocked = marks_of t.blocked }

-- the fault of a missing word
abbrev pub ends_early : ℕ → BlockedFault
ends_early k = Missing k

-- whether the fault is that memory ran out
abbrev pub wants_memory : BlockedFault → Bool
wants_memory NoMemory = true
wants_memory _ = false

-- parsing the rest of the text by a form
abbrev pub reads_blocked : {A : Type 0} → Form BlockedFault A → Left → Result (A × Left) BlockedFault
reads_blocked form left = reading ends_early form left

-- The result of a parsing function is what its form gives, unless memory runs out.
abbrev pub GivesBlocked : {X Y : Type 0} → (X → Y) → Result X BlockedFault → Result Y BlockedFault → Type 0
GivesBlocked view result read = Gives wants_memory view result read
