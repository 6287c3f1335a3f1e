use Rattle.std.proofs.Common.{◌≡◌, ◌+◌, ◌∙◌, None, sym, subst, arith}
use Rattle.std.specs.List.{find}
use Rattle.ctt_problem.specs.Lists.{below}
use Rattle.ctt_problem.specs.Marks.{IsLeast}
use Rattle.ctt_problem.specs.Problem.{course_count}
use Rattle.ctt_edits.specs.RowSets.{has_course, between}
use Rattle.ctt_edits.specs.declared.row.Row.TheVariants.{Course}
use Rattle.ctt_draft.specs.Drafts.{differs}
use Rattle.ctt_draft.specs.Comparisons.{base_of}
use Rattle.ctt_draft.proofs.FirstLemmas.{found_next, past_next, next_within, found_none}
use Rattle.ctt_draft.proofs.comparing.Comparison.first_course.Goals as goal

pub returns-then-course_differs : goal.returns-then-course_differs
returns-then-course_differs g c = found_next (λ n. differs (base_of c.args.self.now) c.args.self.now.sheet (Course n)) (has_course c.args.rows.now) c.loop-course.from (course_count c.args.self.now.problem) c.in-Some.course c.next_course.result (subst (λ i. IsLeast (between c.loop-course.from (course_count i) (has_course c.args.rows.now)) c.next_course.result) c.instance-instance.ensures c.next_course.ensures) c.in-Some.is c.loop-course.invariant.none c.loop-course.invariant.within (sym c.course_differs.ensures ∙ c.if-course_differs.true)

pub loop-course-preserved : goal.loop-course-preserved
loop-course-preserved g c =
    let behind = next_within (has_course c.args.rows.now) c.loop-course.from (course_count c.args.self.now.problem) c.in-Some.course c.next_course.result (subst (λ i. IsLeast (between c.loop-course.from (course_count i) (has_course c.args.rows.now)) c.next_course.result) c.instance-instance.ensures c.next_course.ensures) c.in-Some.is in
    record {
      none = subst (λ n. find (λ n. differs (base_of c.args.self.now) c.args.self.now.sheet (Course n)) (below (has_course c.args.rows.now) (n + 1)) ≡ None) (sym c.get-from.ensures) (past_next (λ n. differs (base_of c.args.self.now) c.args.self.now.sheet (Course n)) (has_course c.args.rows.now) c.loop-course.from (course_count c.args.self.now.problem) c.in-Some.course c.next_course.result (subst (λ i. IsLeast (between c.loop-course.from (course_count i) (has_course c.args.rows.now)) c.next_course.result) c.instance-instance.ensures c.next_course.ensures) c.in-Some.is c.loop-course.invariant.none c.loop-course.invariant.within (sym c.course_differs.ensures ∙ c.if-course_differs.false));
      within = omega (arith, behind.1, c.get-from.ensures);
    }

pub returns : goal.returns
returns g c = found_none (λ n. differs (base_of c.args.self.now) c.args.self.now.sheet (Course n)) (has_course c.args.rows.now) c.loop-course.from (course_count c.args.self.now.problem) c.next_course.result (subst (λ i. IsLeast (between c.loop-course.from (course_count i) (has_course c.args.rows.now)) c.next_course.result) c.instance-instance.ensures c.next_course.ensures) c.in_default.is c.loop-course.invariant.none c.loop-course.invariant.within
