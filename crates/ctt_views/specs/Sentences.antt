-- Findings as sentences, in HTML or in plain text.
use Rattle.std.specs.Prelude.{ℕ, ◌≡◌, ◌++◌, List, [], codes, flat_map, slice_index_or}
use Rattle.std.specs.Fmt.{decimal}
use Rattle.ctt_problem.specs.Problem.{Problem, capacity_of, course_of, day_of, period_of}
use Rattle.ctt_problem.specs.declared.placed.Placed.{Placed}
use Rattle.ctt_findings.specs.Findings.{findings}
use Rattle.ctt_findings.specs.declared.finding.Cause.{Cause}
use Rattle.ctt_findings.specs.declared.finding.Cause.TheVariants.{Teacher, Curriculum}
use Rattle.ctt_findings.specs.declared.finding.Finding.{Finding}
use Rattle.ctt_findings.specs.declared.finding.Finding.TheVariants.{Lectures, Conflict, Availability, Occupancy, Barred, Blocked, Capacity, Days, Compactness, Stability}
use Rattle.ctt_views.specs.Phrases.{amount, name_as, when}
use Rattle.ctt_views.specs.Ranking.{AreRanked}
use Rattle.ctt_views.specs.declared.phrases.Markup.{Markup}
use Rattle.ctt_views.specs.declared.phrases.Markup.TheVariants.{Html, Plain}

-- the names of a course, of a room and of a curriculum, and the time of a slot
abbrev pub course_as : Markup → Problem → ℕ → List ℕ
course_as markup i c = name_as markup (slice_index_or i.course_names c [])

abbrev pub room_as : Markup → Problem → ℕ → List ℕ
room_as markup i r = name_as markup (slice_index_or i.room_names r [])

abbrev pub curriculum_as : Markup → Problem → ℕ → List ℕ
curriculum_as markup i q = name_as markup (slice_index_or i.curriculum_names q [])

abbrev pub time_as : Markup → Problem → List ℕ → ℕ → List ℕ
time_as markup i days s = when markup days (day_of i s) (period_of i s)

-- missing or surplus lectures
unfoldable pub lectures_text : List ℕ → ℕ → ℕ → List ℕ
lectures_text c placed stated = c ++ (codes " has " ++ (amount placed (codes "lecture") ++ (codes " in place of " ++ decimal stated)))

-- two lectures in one slot whose courses clash
unfoldable pub conflict_text : List ℕ → List ℕ → List ℕ → List ℕ → List ℕ → List ℕ
conflict_text c d at cause name = c ++ (codes " and " ++ (d ++ (codes " are both on " ++ (at ++ (codes ": same " ++ (cause ++ (codes " " ++ name)))))))

-- a lecture in a slot in which its course is unavailable
unfoldable pub availability_text : List ℕ → List ℕ → List ℕ
availability_text c at = c ++ (codes " is on " ++ (at ++ codes ", when it is unavailable"))

-- a lecture in a room that is already taken
unfoldable pub occupancy_text : List ℕ → List ℕ → List ℕ → List ℕ
occupancy_text c r at = c ++ (codes " is in room " ++ (r ++ (codes " on " ++ (at ++ codes ", when the room is taken"))))

-- a lecture in a barred room
unfoldable pub barred_text : List ℕ → List ℕ → List ℕ → List ℕ
barred_text c r at = c ++ (codes " is in room " ++ (r ++ (codes ", which is barred for it, on " ++ at)))

-- a lecture in a room that is blocked in the slot
unfoldable pub blocked_text : List ℕ → List ℕ → List ℕ → List ℕ
blocked_text c r at = c ++ (codes " is in room " ++ (r ++ (codes " on " ++ (at ++ codes ", when the room is blocked"))))

-- a lecture of so many students in a room with so many seats
unfoldable pub capacity_text : List ℕ → ℕ → List ℕ → ℕ → List ℕ → List ℕ
capacity_text c students r seats at = c
    ++ (codes " with "
    ++ (amount students (codes "student")
    ++ (codes " is in room "
    ++ (r
    ++ (codes " with "
    ++ (amount seats (codes "seat")
    ++ (codes " on "
    ++ at)))))))

-- a course with lectures on too few days
unfoldable pub days_text : List ℕ → ℕ → ℕ → List ℕ
days_text c days minimum = c ++ (codes " is on " ++ (amount days (codes "day") ++ (codes " in place of at least " ++ decimal minimum)))

-- an isolated lecture
unfoldable pub compactness_text : List ℕ → List ℕ → List ℕ → List ℕ
compactness_text c at q = c ++ (codes " on " ++ (at ++ (codes " is alone in curriculum " ++ q)))

-- a course with lectures in several rooms
unfoldable pub stability_text : List ℕ → ℕ → List ℕ
stability_text c rooms = c ++ (codes " is in " ++ amount rooms (codes "room"))

-- a lecture with more students than its room has seats
abbrev pub overfull : Markup → Problem → List ℕ → Placed → List ℕ
overfull markup i days l = capacity_text (course_as markup i l.course) (course_of i l.course).students (room_as markup i l.room) (capacity_of i l.room) (time_as markup i days l.slot)

-- a conflict, by its cause
abbrev pub conflict_by : Markup → Problem → List ℕ → List ℕ → List ℕ → Cause → List ℕ
conflict_by markup i c d at (Teacher n) = conflict_text c d at (codes "teacher") (name_as markup (slice_index_or i.teacher_names n []))
conflict_by markup i c d at (Curriculum q) = conflict_text c d at (codes "curriculum") (curriculum_as markup i q)

-- a finding as a sentence, with the names of days in one text
abbrev pub sentence_as : Markup → Problem → List ℕ → Finding → List ℕ
sentence_as m i days (Lectures c placed stated) = lectures_text (course_as m i c) placed stated
sentence_as m i days (Conflict c d s why) = conflict_by m i (course_as m i c) (course_as m i d) (time_as m i days s) why
sentence_as m i days (Availability l) = availability_text (course_as m i l.course) (time_as m i days l.slot)
sentence_as m i days (Occupancy l) = occupancy_text (course_as m i l.course) (room_as m i l.room) (time_as m i days l.slot)
sentence_as m i days (Barred l) = barred_text (course_as m i l.course) (room_as m i l.room) (time_as m i days l.slot)
sentence_as m i days (Blocked l) = blocked_text (course_as m i l.course) (room_as m i l.room) (time_as m i days l.slot)
sentence_as m i days (Capacity l n) = overfull m i days l
sentence_as m i days (Days c count minimum n) = days_text (course_as m i c) count minimum
sentence_as m i days (Compactness q l n) = compactness_text (course_as m i l.course) (time_as m i days l.slot) (curriculum_as m i q)
sentence_as m i days (Stability c rooms n) = stability_text (course_as m i c) rooms

-- a finding as a sentence of the page
abbrev pub sentence : Problem → List ℕ → Finding → List ℕ
sentence i days f = sentence_as Html i days f

-- the lines of findings in plain text: a sentence each, in which days have their numbers
abbrev pub sentence_line : Problem → Finding → List ℕ
sentence_line i f = sentence_as Plain i [] f ++ codes "\n"

abbrev pub sentence_lines : Problem → List Finding → List ℕ
sentence_lines i found = flat_map (sentence_line i) found

-- the text has the sentences of a timetable's findings, ranked
pub record HasSentences (i : Problem) (t : List Placed) (text : List ℕ) : Type 0 where
  pub found : List Finding
  pub ranked : AreRanked (findings i t) found
  pub shown : text ≡ sentence_lines i found
