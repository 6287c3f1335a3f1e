-- Findings whose numbers are within the ranges of an instance.
use Rattle.std.specs.Prelude.{◌<◌}
use Rattle.ctt_problem.specs.Problem.{Problem, course_count, slot_count, teacher_count, curriculum_count}
use Rattle.ctt_problem.specs.Timetable.{Fits}
use Rattle.ctt_findings.specs.declared.finding.Cause.{Cause}
use Rattle.ctt_findings.specs.declared.finding.Cause.TheVariants.{Teacher, Curriculum}
use Rattle.ctt_findings.specs.declared.finding.Finding.{Finding}
use Rattle.ctt_findings.specs.declared.finding.Finding.TheVariants.{Lectures, Conflict, Availability, Occupancy, Barred, Blocked, Capacity, Days, Compactness, Stability}

abbrev pub CauseFits : Problem → Cause → Type 0
CauseFits i (Teacher n) = n < teacher_count i
CauseFits i (Curriculum q) = q < curriculum_count i

abbrev pub FindingFits : Problem → Finding → Type 0
FindingFits i (Lectures c placed stated) = c < course_count i
FindingFits i (Conflict c d s why) = (c < course_count i) × (d < course_count i) × (s < slot_count i) × CauseFits i why
FindingFits i (Availability l) = Fits i l
FindingFits i (Occupancy l) = Fits i l
FindingFits i (Barred l) = Fits i l
FindingFits i (Blocked l) = Fits i l
FindingFits i (Capacity l points) = Fits i l
FindingFits i (Days c days minimum points) = c < course_count i
FindingFits i (Compactness q l points) = (q < curriculum_count i) × Fits i l
FindingFits i (Stability c rooms points) = c < course_count i
