use Rattle.std.proofs.Common.{◌≡◌, ◌-◌, ◌*◌, length}
use Rattle.ctt_problem.specs.BitRows.{marks_of, HasSize}
use Rattle.ctt_text.specs.Forms.{times}
use Rattle.ctt_text.specs.InstancePlaces.{reads, unavailability}
use Rattle.ctt_text.proofs.instance.unavailability.read_periods.Given as goal

-- parsing so far, followed by parsing the rest, is parsing all
abbrev pub invariant-loop : goal.invariant-loop
invariant-loop l = record {
  size : HasSize l.table (length l.courses) (l.days * l.periods);
  exact : reads (times (unavailability l.courses l.days l.periods) (l.count - l.counter) (marks_of l.table)) l.reader ≡ reads (times (unavailability l.courses l.days l.periods) l.count (marks_of l.fn.table)) l.fn.reader;
}
