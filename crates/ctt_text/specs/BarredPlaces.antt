-- The form of the text of barred rooms: its places in order, each with its rule and its faults.
use Rattle.std.specs.Prelude.{ℕ, ◌+◌, ◌*◌, List, Bool, true, false, codes, replicate, Result}
use Rattle.std.specs.List.{slice_set}
use Rattle.ctt_text.specs.declared.fault.BarredFault.{BarredFault}
use Rattle.ctt_text.specs.declared.fault.BarredFault.TheVariants.{Missing, Expected, BadNumber, TooLarge, UnknownCourse, UnknownRoom, NoMemory}
use Rattle.ctt_text.specs.Left.{Left}
use Rattle.ctt_text.specs.Forms.{Form, done, ◌>>=◌}
use Rattle.ctt_text.specs.Places.{known_name}
use Rattle.ctt_text.specs.SideFile.{side_file}
use Rattle.ctt_problem.specs.Problem.{Problem, course_count, room_count}
use Rattle.ctt_text.specs.Reading.{Gives, reading}

-- a course and a room that is barred for it, marked in addition to the pairs so far
unfoldable pub barred_pair : Problem → List Bool → Form BarredFault (List Bool)
barred_pair i so_far = do
  course ← known_name UnknownCourse i.course_names
  room ← known_name UnknownRoom i.room_names
  done (slice_set so_far (course * room_count i + room) true)

-- the table in which no room is barred
abbrev pub none_barred : Problem → List Bool
none_barred i = replicate (course_count i * room_count i) false

-- the whole text, which gives for each course in turn, and each room in turn, whether it is barred
unfoldable pub barred_rooms : Problem → Form BarredFault (List Bool)
barred_rooms i = side_file Expected BadNumber TooLarge (codes "Barred:") (barred_pair i) (none_barred i)

-- the fault of a missing word
abbrev pub ends_early : ℕ → BarredFault
ends_early k = Missing k

-- whether the fault is that memory ran out
abbrev pub wants_memory : BarredFault → Bool
wants_memory NoMemory = true
wants_memory _ = false

-- parsing the rest of the text by a form
abbrev pub reads_barred : {A : Type 0} → Form BarredFault A → Left → Result (A × Left) BarredFault
reads_barred form left = reading ends_early form left

-- The result of a parsing function is what its form gives, unless memory runs out.
abbrev pub GivesBarred : {X Y : Type 0} → (X → Y) → Result X BarredFault → Result Y BarredFault → Type 0
GivesBarred view result read = Gives wants_memory view result read
