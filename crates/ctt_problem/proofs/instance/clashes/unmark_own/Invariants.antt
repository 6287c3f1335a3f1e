use Rattle.std.proofs.Common.{◌≡◌, ◌==◌, ◌&&◌, ℕ, not, nat_lt}
use Rattle.ctt_problem.specs.BitRows.{is_marked_in, HasSize}
use Rattle.ctt_problem.proofs.instance.clashes.unmark_own.Given as goal

-- the rows so far
abbrev pub invariant-loop-course : goal.invariant-loop-course
invariant-loop-course l = record {
  size : HasSize l.rows l.courses l.courses;
  marks : (r n : ℕ) → is_marked_in l.rows r n ≡ (not (nat_lt r l.course && r == n) && is_marked_in l.fn.rows r n);
}
