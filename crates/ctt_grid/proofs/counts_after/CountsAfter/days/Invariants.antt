use Rattle.std.proofs.Common.{◌≡◌, ◌≤◌, nat_lt}
use Rattle.ctt_problem.specs.Lists.{count_below}
use Rattle.ctt_grid.specs.Seen.{seen_day}
use Rattle.ctt_grid.proofs.counts_after.CountsAfter.days.Given as goal

abbrev pub invariant-loop-day : goal.invariant-loop-day
invariant-loop-day l = record {
  so_far : l.count ≡ count_below (λ d. nat_lt 0 (seen_day l.instance l.self l.course d)) l.day;
  few : l.count ≤ l.day;
}
