use Rattle.std.proofs.Common.{◌≡◌, ◌++◌, string_bytes}
use Rattle.ctt_problem.specs.Problem.{slot_of}
use Rattle.ctt_views.specs.Cells.{cell}
use Rattle.ctt_views.specs.GridTexts.{each_below}
use Rattle.ctt_views.proofs.grids.push_cells.Given as goal

abbrev pub invariant-loop-day : goal.invariant-loop-day
invariant-loop-day l = string_bytes l.page ≡ string_bytes l.initial.page ++ each_below (λ d. cell l.instance l.week l.view l.grid (slot_of l.instance d l.period)) l.day
