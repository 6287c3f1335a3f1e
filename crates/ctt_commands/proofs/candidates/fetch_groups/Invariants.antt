use Rattle.std.proofs.Common.{◌≡◌}
use Rattle.std.specs.List.{AllByRecursion as Each}
use Rattle.std.specs.Vec.Iter.{into_iter_items}
use Rattle.ctt_commands.specs.Groups.{GroupFits, IsGroup}
use Rattle.ctt_commands.proofs.CompareLemmas.{IsAhead}
use Rattle.ctt_commands.proofs.candidates.fetch_groups.Given as goal

-- the instances before the remaining ones were read, and no file has changed
abbrev pub invariant-loop-one : goal.invariant-loop-one
invariant-loop-one g l = record {
  ahead : IsAhead (IsGroup (g.F.Files.held l.fn.files)) l.fn.wanted.items (into_iter_items l.one-iterator) l.groups.items;
  fit : Each GroupFits l.groups.items;
  kept : g.F.Files.held l.files ≡ g.F.Files.held l.fn.files;
}
