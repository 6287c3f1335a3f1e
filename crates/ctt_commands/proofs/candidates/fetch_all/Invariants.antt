use Rattle.std.proofs.Common.{◌≡◌}
use Rattle.std.specs.List.{AllByRecursion as Each}
use Rattle.std.specs.Vec.Iter.{into_iter_items}
use Rattle.ctt_commands.specs.Groups.{CandidateFits, IsCandidate}
use Rattle.ctt_commands.proofs.CompareLemmas.{IsAhead}
use Rattle.ctt_commands.proofs.candidates.fetch_all.Given as goal

-- the files before the remaining ones were read, and no file has changed
abbrev pub invariant-loop-file : goal.invariant-loop-file
invariant-loop-file g l = record {
  ahead : IsAhead (IsCandidate (g.F.Files.held l.fn.files) l.instance) l.fn.solutions.items (into_iter_items l.file-iterator) l.candidates.items;
  fit : Each (CandidateFits l.instance) l.candidates.items;
  kept : g.F.Files.held l.files ≡ g.F.Files.held l.fn.files;
}
