use Rattle.std.proofs.Common.{◌≡◌, ◌*◌, ◌≤◌, take, sum_by, count_by}
use Rattle.ctt_rules.specs.Penalty.{lectures_of}
use Rattle.ctt_rules.specs.Windows.{is_alone_within}
use Rattle.ctt_rules.proofs.compactness.alone_within.Given as goal

abbrev pub invariant-loop-number : goal.invariant-loop-number
invariant-loop-number l = record {
  so_far : l.total ≡ sum_by (λ q. 2 * count_by (is_alone_within l.instance l.first (lectures_of q l.timetable)) (lectures_of q l.timetable)) (take l.number l.instance.curricula);
  small : l.total ≤ 8000000 * l.number;
}
