use Rattle.std.proofs.Common.{◌≡◌, ◌+◌, ◌-◌, ◌∙◌, ℕ, ap, ap₂, sym, refl, arith, length}
use Rattle.ctt_problem.specs.Problem.{course_of}
use Rattle.ctt_problem.specs.Timetable.{course_row}
use Rattle.ctt_rules.specs.Rows.{from_course, IsCut}
use Rattle.ctt_rules.proofs.RowLemmas.{from_first}
use Rattle.ctt_rules.proofs.SumLemmas.{sum_below_more}
use Rattle.ctt_rules.proofs.TimetableLemmas.{row_is_short, lectures_small}
use Rattle.ctt_rules.proofs.hard.missing.Goals as goal

pub loop-number-init : goal.loop-number-init
loop-number-init c = record { rest = from_first c.args.timetable.now; so_far = refl; small = omega arith }

pub loop-number-preserved : goal.loop-number-preserved
loop-number-preserved c =
    let i = c.args.instance.now in
    let t = c.args.timetable.now in
    let n = c.loop-number.number in
    let f : ℕ → ℕ = λ c. ((course_of i c).lectures - length (course_row c t)) + (length (course_row c t) - (course_of i c).lectures) in
    let cut : IsCut c.new-course.result t c.cut_row.result.0.now c.cut_row.result.1.now = c.cut_row.ensures t c.requires.ascending (c.loop-number.invariant.rest ∙ ap (λ k. from_course k t) (sym c.new-course.ensures)) in
    let wanted : c.from.result ≡ (course_of i n).lectures = c.from.ensures ∙ c.lectures.ensures.exact ∙ ap (λ k. (course_of i k).lectures) c.new-course.ensures in
    let there : length c.cut_row.result.0.now ≡ length (course_row n t) = ap length (cut.front ∙ ap (λ k. course_row k t) c.new-course.ensures) in
    let here : c.abs_diff-total.result ≡ f n = c.abs_diff-total.ensures ∙ ap₂ (λ a b. (a - b) + (b - a)) wanted there in
    record {
      rest = cut.after ∙ ap (λ k. from_course (k + 1) t) c.new-course.ensures;
      so_far = omega (arith, c.loop-number.invariant.so_far, here, sum_below_more f n);
      small = omega (arith, c.loop-number.invariant.small, here, row_is_short i t c.requires n, c.limits_hold.ensures.slots_few, lectures_small i c.limits_hold.ensures n);
    }
