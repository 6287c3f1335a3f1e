use Rattle.std.proofs.Common.{◌≡◌, ◌≤◌, ◌-◌, ◌==◌, take, length, true}
use Rattle.std.specs.List.{list_all}
use Rattle.ctt_rules.proofs.row.cut_row.Given as goal

abbrev pub invariant-loop-len : goal.invariant-loop-len
invariant-loop-len l = record {
  within : l.len ≤ length l.lectures;
  row : list_all (λ x. x.course == l.course) (take l.len l.lectures) ≡ true;
}

abbrev pub decreases-loop-len : goal.decreases-loop-len
decreases-loop-len l = length l.lectures - l.len
