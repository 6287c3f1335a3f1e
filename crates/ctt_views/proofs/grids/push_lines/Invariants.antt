use Rattle.std.proofs.Common.{◌≡◌, ◌++◌, string_bytes}
use Rattle.ctt_views.specs.GridTexts.{each_below, line}
use Rattle.ctt_views.proofs.grids.push_lines.Given as goal

abbrev pub invariant-loop-period : goal.invariant-loop-period
invariant-loop-period l = string_bytes l.page ≡ string_bytes l.initial.page ++ each_below (line l.instance l.week l.view l.grid) l.period
