use Rattle.std.proofs.Common.{◌≡◌, ◌+◌, ◌-◌, ◌<◌, ◌≤◌, false, length}
use Rattle.std.specs.Io.KnownBytes.{Consumes}
use Rattle.ctt_files.proofs.input.read_all.Given as goal

abbrev pub invariant-loop-n : goal.invariant-loop-n
invariant-loop-n g l = record {
  short : length l.bytes.items ≤ l.limit;
  room : 0 < length l.buffer;
  unmarked : g.R.Source.has_failed l.reader ≡ false;
  once : g.R.Source.retries l.reader ≡ g.R.Source.retries l.fn.reader;
  few : g.R.Source.pulls l.reader ≤ g.R.Source.pulls l.fn.reader + length l.bytes.items;
  given : Consumes (g.R.Source.left l.fn.reader) (g.R.Source.left l.reader) l.bytes.items;
}

abbrev pub decreases-loop-n : goal.decreases-loop-n
decreases-loop-n g l = l.limit - length l.bytes.items
