-- The form of the text of a solution: its places in order, each with its rule and its faults.
use Rattle.std.specs.Prelude.{ℕ, suc, List, [], ◌∷◌, Bool, true, false, nat_lt, if◌then◌else◌, Some, None, Result}
use Rattle.ctt_text.specs.declared.fault.SolutionFault.{SolutionFault}
use Rattle.ctt_text.specs.declared.fault.SolutionFault.TheVariants.{Cut, UnknownCourse, UnknownRoom, BadNumber, DayOut, PeriodOut, Repeated, NoMemory}
use Rattle.ctt_problem.specs.declared.placed.Placed.{Placed}
use Rattle.ctt_text.specs.Left.{Left}
use Rattle.ctt_text.specs.Numbers.{is_number, value}
use Rattle.ctt_problem.specs.Problem.{Problem, slot_of}
use Rattle.ctt_problem.specs.Timetable.{has_lecture, with}
use Rattle.ctt_text.specs.Forms.{Rule, Form, done, ◌>>=◌, times}
use Rattle.ctt_text.specs.Places.{one, known_name, number_if}
use Rattle.ctt_text.specs.Reading.{Gives, reading}

-- the rule of a period of the day, in whose slot the course must have no lecture so far
abbrev pub free_period : Problem → List Placed → ℕ → ℕ → Rule SolutionFault
free_period i so_far course day word =
    if is_number word then (if nat_lt (value word) i.periods then (if has_lecture course (slot_of i day (value word)) so_far then Some Repeated else None) else Some PeriodOut) else Some BadNumber

-- such a period, which gives its slot
unfoldable pub free_slot : Problem → List Placed → ℕ → ℕ → Form SolutionFault ℕ
free_slot i so_far course day = one (free_period i so_far course day) (λ word. slot_of i day (value word))

-- one entry, whose lecture is inserted into those so far
unfoldable pub entry : Problem → List Placed → Form SolutionFault (List Placed)
entry i so_far = do
  course ← known_name UnknownCourse i.course_names
  room ← known_name UnknownRoom i.room_names
  day ← number_if BadNumber (λ n. nat_lt n i.days) DayOut
  slot ← free_slot i so_far course day
  done (with (record { course = course; slot = slot; room = room }) so_far)

-- the number of entries of four words, including an incomplete last one
unfoldable pub begun : List (List ℕ) → ℕ
begun [] = 0
begun (a ∷ []) = 1
begun (a ∷ b ∷ []) = 1
begun (a ∷ b ∷ c ∷ []) = 1
begun (a ∷ b ∷ c ∷ d ∷ words) = suc (begun words)

-- the whole text: one entry for each that is begun
abbrev pub solution : Problem → List (List ℕ) → Form SolutionFault (List Placed)
solution i words = times (entry i) (begun words) []

-- the fault of a missing word
abbrev pub cut : ℕ → SolutionFault
cut k = Cut k

-- whether the fault is that memory ran out
abbrev pub lacks_memory : SolutionFault → Bool
lacks_memory NoMemory = true
lacks_memory _ = false

-- parsing the rest of the text of a solution by a form
abbrev pub reads_lectures : {A : Type 0} → Form SolutionFault A → Left → Result (A × Left) SolutionFault
reads_lectures form left = reading cut form left

-- The result of a parsing function is what its form gives, unless memory runs out.
abbrev pub GivesLectures : {X Y : Type 0} → (X → Y) → Result X SolutionFault → Result Y SolutionFault → Type 0
GivesLectures view result read = Gives lacks_memory view result read
