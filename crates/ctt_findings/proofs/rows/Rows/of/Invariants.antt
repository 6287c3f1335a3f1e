use Rattle.std.proofs.Common.{◌≡◌, length}
use Rattle.ctt_findings.specs.Rows.{AreRows}
use Rattle.ctt_findings.proofs.rows.Rows.of.Given as goal

-- the rows so far
abbrev pub invariant-loop-number : goal.invariant-loop-number
invariant-loop-number l = record {
  size : length l.rows.items ≡ l.number;
  rows : AreRows l.timetable l.rows.items;
}
