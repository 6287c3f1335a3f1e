use Rattle.std.proofs.Common.{◌≡◌, ◌++◌, string_bytes}
use Rattle.ctt_views.specs.GridTexts.{each_below, grid_text}
use Rattle.ctt_views.specs.Parts.{grid_of}
use Rattle.ctt_views.proofs.parts.push_part_grids.Given as goal

abbrev pub invariant-loop-number : goal.invariant-loop-number
invariant-loop-number l = string_bytes l.page ≡ string_bytes l.initial.page ++ each_below (λ n. grid_text l.instance l.week l.view l.names (grid_of l.kind n)) l.number
