use Rattle.std.proofs.Common.{◌≡◌, ◌<◌, ◌+◌, ℕ, true, get_or}
use Rattle.ctt_problem.specs.declared.placed.Placed.{Placed}
use Rattle.ctt_problem.specs.Timetable.{Fits, before}
use Rattle.ctt_problem.proofs.timetable.ascends.Given as goal

abbrev pub invariant-loop-k : goal.invariant-loop-k
invariant-loop-k l = record {
  fits : (j : ℕ) (d : Placed) → j < l.k → Fits l.instance (get_or l.lectures j d);
  ascending : (j : ℕ) (d : Placed) → j + 1 < l.k → before (get_or l.lectures j d) (get_or l.lectures (j + 1) d) ≡ true;
}
