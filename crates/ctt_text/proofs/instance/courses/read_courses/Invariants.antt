use Rattle.std.proofs.Common.{◌≡◌, ◌-◌, ◌≤◌, length}
use Rattle.ctt_text.specs.Forms.{times}
use Rattle.ctt_text.specs.InstancePlaces.{reads, course, no_courses}
use Rattle.ctt_text.proofs.instance.courses.read_courses.Given as goal

-- parsing so far, followed by parsing the rest, is parsing all
abbrev pub invariant-loop : goal.invariant-loop
invariant-loop l = record {
  so_far : reads (times (course) (l.count - l.counter) l.section) l.reader ≡ reads (times (course) l.count no_courses) l.fn.reader;
  count : length l.section.names ≡ l.counter;
  few : length l.section.teachers ≤ l.counter;
}
