use Rattle.std.proofs.Common.{rules, ◌∙◌, ◌+◌, ◌≤◌, ◌<◌, List, ap, arith}
use Rattle.ctt_problem.specs.Problem.{Problem, course_count}
use Rattle.ctt_problem.specs.declared.placed.Placed.{Placed}
use Rattle.ctt_edits.proofs.MissingLemmas.{missing_more, missing_same}
use Rattle.ctt_edits.proofs.missing.missing.Goals.{then-missing-gt0+in_ok-push, else-missing-gt0}
use Rattle.ctt_edits.proofs.missing.missing.Goals as goal

pub missing_of-missing-requires : goal.missing_of-missing-requires
missing_of-missing-requires g c κs =
    let within : c.new-course.result < course_count (g.S.Rooms.problem c.args.sheet.now) = omega (arith, c.loop-number-test.true, c.new-course.ensures, c.courses-number-end.ensures.exact, ap course_count c.instance.ensures) in
    search rules

pub loop-number-preserved : goal.loop-number-preserved
loop-number-preserved g c =
    let i : Problem = g.S.Rooms.problem c.args.sheet.now in
    let t : List Placed = g.S.Rooms.list c.args.sheet.now in
    let within : c.loop-number.number + 1 ≤ course_count i = omega (arith, c.loop-number-test.true, c.courses-number-end.ensures.exact, ap course_count c.instance.ensures) in
    elim c.if-missing-gt0.branch [
      | then-missing-gt0+in_ok-push w ↦ (
        missing_more i t c.loop-number.number c.new-course.result c.missing_of-missing.result c.loop-number.list.items c.if-missing-gt0.list.items c.new-course.ensures c.missing_of-missing.ensures c.loop-number.invariant.0
            w.if-missing-gt0.true (ap (λ v. v.items) w.list-is ∙ w.in_ok-push.ensures.items),
        within,
      )
      | else-missing-gt0 w ↦ (
        missing_same i t c.loop-number.number c.new-course.result c.missing_of-missing.result c.loop-number.list.items c.if-missing-gt0.list.items c.new-course.ensures c.missing_of-missing.ensures c.loop-number.invariant.0
            w.if-missing-gt0.false (ap (λ v. v.items) w.list-is),
        within,
      )
    ]
