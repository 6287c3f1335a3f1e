use Rattle.std.proofs.Common.{◌≡◌, ◌-◌}
use Rattle.ctt_problem.specs.BitRows.{marks_of, HasSize}
use Rattle.ctt_problem.specs.Problem.{course_count, room_count}
use Rattle.ctt_text.specs.Forms.{times}
use Rattle.ctt_text.specs.BarredPlaces.{reads_barred, barred_pair}
use Rattle.ctt_text.proofs.instance.barred.read_pairs.Given as goal

-- parsing so far, followed by parsing the rest, is parsing all
abbrev pub invariant-loop : goal.invariant-loop
invariant-loop l = record {
  size : HasSize l.table (course_count l.instance) (room_count l.instance);
  exact : reads_barred (times (barred_pair l.instance) (l.count - l.counter) (marks_of l.table)) l.reader ≡ reads_barred (times (barred_pair l.instance) l.count (marks_of l.fn.table)) l.fn.reader;
}
