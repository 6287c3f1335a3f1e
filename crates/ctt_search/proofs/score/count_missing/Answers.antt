use Rattle.std.proofs.Common.{◌≡◌, ◌+◌, ◌-◌, ◌∙◌, ℕ, List, ap, ap₂, arith, length}
use Rattle.ctt_problem.specs.Problem.{Problem, course_of, course_count}
use Rattle.ctt_problem.specs.Timetable.{course_row}
use Rattle.ctt_problem.specs.declared.placed.Placed.{Placed}
use Rattle.ctt_rules.proofs.SumLemmas.{sum_below_more}
use Rattle.ctt_search.proofs.score.count_missing.Goals as goal

pub count-placed-requires : goal.count-placed-requires
count-placed-requires g c = omega (arith, c.loop-number-test.true, c.new-course.ensures, c.courses-number-end.ensures.exact, ap course_count c.instance-instance.ensures)

pub loop-number-preserved : goal.loop-number-preserved
loop-number-preserved g c =
    let i : Problem = g.S.Rooms.problem c.args.sheet.now in
    let t : List Placed = g.S.Rooms.list c.args.sheet.now in
    let n : ℕ = c.loop-number.number in
    let f : ℕ → ℕ = λ k. ((course_of i k).lectures - length (course_row k t)) + (length (course_row k t) - (course_of i k).lectures) in
    let wanted : c.from.result ≡ (course_of i n).lectures = c.from.ensures ∙ c.lectures.ensures.exact ∙ ap₂ (λ (j : Problem) k. (course_of j k).lectures) c.instance-instance.ensures c.new-course.ensures in
    let there : c.from-in-loop-number.result ≡ length (course_row n t) = c.from-in-loop-number.ensures ∙ c.count-placed.ensures ∙ ap (λ k. length (course_row k t)) c.new-course.ensures in
    let here : c.abs_diff-total.result ≡ f n = c.abs_diff-total.ensures ∙ ap₂ (λ a b. (a - b) + (b - a)) wanted there in
    record {
      so_far = omega (arith, c.loop-number.invariant.so_far, here, sum_below_more f n);
      small = omega (arith, c.loop-number.invariant.small, c.abs_diff-total.ensures, c.from.ensures, c.from-in-loop-number.ensures, c.lectures.ensures.small);
    }
