use Rattle.std.proofs.Common.{◌≡◌}
use Rattle.std.specs.Vec.Iter.{into_iter_items}
use Rattle.ctt_files.proofs.InTurn.{IsRead}
use Rattle.ctt_files.proofs.files.read_files.Given as goal

-- the files before the remaining ones were read, and no file has changed
abbrev pub invariant-loop-name : goal.invariant-loop-name
invariant-loop-name g l = record {
  read : IsRead (λ text. text.items) (g.F.Files.held l.fn.files) l.fn.names.items (into_iter_items l.name-iterator) l.texts.items;
  kept : g.F.Files.held l.files ≡ g.F.Files.held l.fn.files;
}
