use Rattle.std.proofs.Common.{◌≡◌, ◌+◌, ◌-◌, ◌*◌, ◌≤◌, ◌&&◌, ltb, sum_by, count_by}
use Rattle.ctt_rules.specs.Penalty.{is_alone, lectures_of}
use Rattle.ctt_rules.specs.Windows.{spaced}
use Rattle.ctt_rules.proofs.compactness.compactness.Given as goal

abbrev pub invariant-loop-first : goal.invariant-loop-first
invariant-loop-first l = record {
  so_far : l.total ≡ sum_by (λ q. 2 * count_by (λ x. ltb (spaced l.instance x.slot) l.first && is_alone l.instance (lectures_of q l.timetable) x) (lectures_of q l.timetable)) l.instance.curricula;
  small : l.total ≤ l.first * (20000 * 8000000);
  near : l.first ≤ 4062;
}

abbrev pub decreases-loop-first : goal.decreases-loop-first
decreases-loop-first l = l.end + 62 - l.first
