use Rattle.std.proofs.Common.{◌≡◌, length}
use Rattle.ctt_text.specs.SolutionPlaces.{reads_lectures, solution}
use Rattle.ctt_text.proofs.SolutionSteps.{entries_left}
use Rattle.ctt_text.proofs.solution.read.read_lectures.Given as goal

-- parsing so far, followed by parsing the rest, is parsing all
abbrev pub invariant-loop-reader : goal.invariant-loop-reader
invariant-loop-reader l = record {
  problem : l.lectures.problem ≡ l.instance;
  parsed : entries_left l.instance l.lectures.list l.reader ≡ reads_lectures (solution l.instance l.fn.reader.words) l.fn.reader;
}

abbrev pub decreases-loop-reader : goal.decreases-loop-reader
decreases-loop-reader l = length l.reader.words
