use Rattle.std.proofs.Common.{◌≡◌, ◌++◌, string_bytes}
use Rattle.ctt_views.specs.GridTexts.{each_below}
use Rattle.ctt_views.specs.Parts.{entry, grid_of}
use Rattle.ctt_views.proofs.parts.push_entries.Given as goal

abbrev pub invariant-loop-number : goal.invariant-loop-number
invariant-loop-number l = string_bytes l.page ≡ string_bytes l.initial.page ++ each_below (λ n. entry l.instance (grid_of l.kind n)) l.number
