-- The findings of a timetable: what breaks a hard rule or costs points, in the order of the report.
use Rattle.std.specs.Prelude.{ℕ, zero, suc, Bool, cond, List, [], ◌∷◌, ◌++◌, length, filter_map, ◌==◌, ◌&&◌, not, nat_lt, Option, Some, None, option_to_list, unwrap_or, if◌then◌else◌}
use Rattle.std.specs.List.{find, list_any}
use Rattle.ctt_problem.specs.Belonging.{curricula_of}
use Rattle.ctt_problem.specs.Lists.{has}
use Rattle.ctt_problem.specs.Problem.{Problem, course_of, course_count, curriculum_count, members, clash, is_unavailable, is_barred, is_blocked}
use Rattle.ctt_problem.specs.Timetable.{course_row}
use Rattle.ctt_problem.specs.declared.placed.Placed.{Placed}
use Rattle.ctt_rules.specs.Hard.{share_room}
use Rattle.ctt_rules.specs.Neighbours.{busy}
use Rattle.ctt_rules.specs.Penalty.{unseated, days_of, rooms_of, days_cost, rooms_cost, is_alone, lectures_of}
use Rattle.ctt_findings.specs.declared.finding.Cause.{Cause}
use Rattle.ctt_findings.specs.declared.finding.Cause.TheVariants.{Teacher, Curriculum}
use Rattle.ctt_findings.specs.declared.finding.Finding.{Finding}
use Rattle.ctt_findings.specs.declared.finding.Finding.TheVariants.{Lectures, Conflict, Availability, Occupancy, Barred, Blocked, Capacity, Days, Compactness, Stability}

-- the findings for each number below n, in order
abbrev pub for_each : (ℕ → List Finding) → ℕ → List Finding
for_each f zero = []
for_each f (suc n) = for_each f n ++ f n

-- the findings for a number that passes, and none for another
abbrev pub where_passes : (ℕ → Bool) → (ℕ → List Finding) → ℕ → List Finding
where_passes p f n = cond (p n) (f n) []

-- a finding, if the condition holds
abbrev pub found : Bool → Finding → Option Finding
found b finding = cond b (Some finding) None

-- missing or surplus lectures of a course with these lectures
abbrev pub lectures_finding : Problem → ℕ → List Placed → Option Finding
lectures_finding i c row = found (not (length row == (course_of i c).lectures)) (Lectures c (length row) (course_of i c).lectures)

-- the least curriculum that has both courses, or the number of curricula if none has; the curricula
-- of c ascend, so the first of them that has d is the least
abbrev pub common_curriculum : Problem → ℕ → ℕ → ℕ
common_curriculum i c d = unwrap_or (find (λ q. has d (members i q)) (curricula_of i c)) (curriculum_count i)

-- why two courses clash: their common teacher, or else the least curriculum that has both
abbrev pub cause : Problem → ℕ → ℕ → Cause
cause i c d = if (course_of i c).teacher == (course_of i d).teacher
    then Teacher (course_of i c).teacher
    else Curriculum (common_curriculum i c d)

-- a lecture in one of the slots of course c, which clashes with its own course
abbrev pub conflict_finding : Problem → ℕ → (ℕ → Bool) → Placed → Option Finding
conflict_finding i c standing l = found (standing l.slot) (Conflict c l.course l.slot (cause i c l.course))

-- the lectures of d that are in slots of c
abbrev pub conflicts_between : Problem → List Placed → ℕ → ℕ → List Finding
conflicts_between i t c d = filter_map (conflict_finding i c (busy (course_row c t))) (course_row d t)

-- the conflicts of c with the courses after it that clash with it
abbrev pub conflicts_of : Problem → List Placed → ℕ → List Finding
conflicts_of i t c = for_each (where_passes (λ d. nat_lt c d && clash i c d) (conflicts_between i t c)) (course_count i)

-- a lecture in a slot in which its course is unavailable
abbrev pub availability_finding : Problem → Placed → Option Finding
availability_finding i l = found (is_unavailable i l.course l.slot) (Availability l)

-- a lecture in a room that is already taken in the slot
abbrev pub occupancy_finding : Bool → Placed → Option Finding
occupancy_finding taken l = found taken (Occupancy l)

-- the lectures in rooms that an earlier one takes in the slot; `before` precedes the list
abbrev pub occupancy_from : List Placed → List Placed → List Finding
occupancy_from before [] = []
occupancy_from before (x ∷ xs) = option_to_list (occupancy_finding (list_any (share_room x) before) x) ++ occupancy_from (before ++ x ∷ []) xs

-- a lecture in a room that is barred for its course
abbrev pub barred_finding : Problem → Placed → Option Finding
barred_finding i l = found (is_barred i l.course l.room) (Barred l)

-- a lecture in a room that is blocked in the slot
abbrev pub blocked_finding : Problem → Placed → Option Finding
blocked_finding i l = found (is_blocked i l.room l.slot) (Blocked l)

-- a lecture with more students than its room has seats
abbrev pub capacity_finding : Problem → Placed → Option Finding
capacity_finding i l = found (nat_lt 0 (unseated i l)) (Capacity l (unseated i l))

-- too few days of a course with these lectures
abbrev pub days_finding : Problem → ℕ → List Placed → Option Finding
days_finding i c row = found (nat_lt 0 (days_cost i c row)) (Days c (days_of i row) (course_of i c).min_days (days_cost i c row))

-- a lecture of a curriculum, if it is isolated
abbrev pub compactness_finding : ℕ → Bool → Placed → Option Finding
compactness_finding q alone l = found alone (Compactness q l 2)

-- the lectures of a course that are isolated among those of a curriculum
abbrev pub alone_of : Problem → List Placed → ℕ → ℕ → List Finding
alone_of i t q c = filter_map (λ l. compactness_finding q (is_alone i (lectures_of (members i q) t) l) l) (course_row c t)

-- the isolated lectures of a curriculum, by course
abbrev pub compactness_of : Problem → List Placed → ℕ → List Finding
compactness_of i t q = for_each (where_passes (λ c. has c (members i q)) (alone_of i t q)) (course_count i)

-- rooms beyond the first of a course with these lectures
abbrev pub stability_finding : Problem → ℕ → List Placed → Option Finding
stability_finding i c row = found (nat_lt 0 (rooms_cost i row)) (Stability c (rooms_of i row) (rooms_cost i row))

-- the findings for each course, in order
abbrev pub by_course : Problem → List Placed → (ℕ → List Placed → Option Finding) → List Finding
by_course i t f = for_each (λ c. option_to_list (f c (course_row c t))) (course_count i)

-- all conflicts, by the first of the two courses
abbrev pub conflict_findings : Problem → List Placed → List Finding
conflict_findings i t = for_each (conflicts_of i t) (course_count i)

-- all isolated lectures, by curriculum
abbrev pub compactness_findings : Problem → List Placed → List Finding
compactness_findings i t = for_each (compactness_of i t) (curriculum_count i)

-- what breaks the hard rules
abbrev pub hard_findings : Problem → List Placed → List Finding
hard_findings i t = by_course i t (lectures_finding i)
    ++ (conflict_findings i t
    ++ (filter_map (availability_finding i) t
    ++ (occupancy_from [] t
    ++ (filter_map (barred_finding i) t
    ++ filter_map (blocked_finding i) t))))

-- what costs points
abbrev pub soft_findings : Problem → List Placed → List Finding
soft_findings i t = filter_map (capacity_finding i) t
    ++ (by_course i t (days_finding i)
    ++ (compactness_findings i t
    ++ by_course i t (stability_finding i)))

-- all findings of a timetable
unfoldable pub findings : Problem → List Placed → List Finding
findings i t = hard_findings i t ++ soft_findings i t
