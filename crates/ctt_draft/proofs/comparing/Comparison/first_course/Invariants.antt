use Rattle.std.proofs.Common.{◌≡◌, ◌≤◌, ◌-◌, None}
use Rattle.std.specs.List.{find}
use Rattle.ctt_problem.specs.Lists.{below}
use Rattle.ctt_problem.specs.Problem.{course_count}
use Rattle.ctt_edits.specs.RowSets.{has_course}
use Rattle.ctt_edits.specs.declared.row.Row.TheVariants.{Course}
use Rattle.ctt_draft.specs.Drafts.{differs}
use Rattle.ctt_draft.specs.Comparisons.{base_of}
use Rattle.ctt_draft.proofs.comparing.Comparison.first_course.Given as goal

abbrev pub invariant-loop-course : goal.invariant-loop-course
invariant-loop-course g l = record {
  none : find (λ n. differs (base_of l.self) l.self.sheet (Course n)) (below (has_course l.rows) l.from) ≡ None;
  within : l.from ≤ course_count l.self.problem;
}

abbrev pub decreases-loop-course : goal.decreases-loop-course
decreases-loop-course g l = course_count l.self.problem - l.from
