use Rattle.std.proofs.Common.{◌≡◌, ◌++◌, string_bytes}
use Rattle.ctt_views.specs.GridTexts.{day_head, each_below}
use Rattle.ctt_views.proofs.grids.push_day_heads.Given as goal

abbrev pub invariant-loop-day : goal.invariant-loop-day
invariant-loop-day l = string_bytes l.page ≡ string_bytes l.initial.page ++ each_below (day_head l.names) l.day
