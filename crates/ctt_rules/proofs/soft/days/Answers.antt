use Rattle.std.proofs.Common.{◌≡◌, ◌+◌, ◌∙◌, ℕ, ap, sym, subst, refl, arith}
use Rattle.std.specs.List.{AllByRecursion as Each}
use Rattle.ctt_problem.specs.Timetable.{Fits, course_row}
use Rattle.ctt_rules.specs.Penalty.{days_cost}
use Rattle.ctt_rules.specs.Rows.{from_course, IsCut}
use Rattle.ctt_rules.proofs.RowLemmas.{from_first}
use Rattle.ctt_rules.proofs.SumLemmas.{sum_below_more}
use Rattle.ctt_rules.proofs.TimetableLemmas.{row_fits}
use Rattle.ctt_rules.proofs.soft.days.Goals as goal

pub loop-number-init : goal.loop-number-init
loop-number-init c = record { rest = from_first c.args.timetable.now; so_far = refl; small = omega arith }

pub missing_days-total-requires-clause-fits : goal.missing_days-total-requires-clause-fits
missing_days-total-requires-clause-fits c =
    let t = c.args.timetable.now in
    let cut : IsCut c.new-course.result t c.cut_row.result.0.now c.cut_row.result.1.now = c.cut_row.ensures t c.requires.ascending (c.loop-number.invariant.rest ∙ ap (λ k. from_course k t) (sym c.new-course.ensures)) in
    subst (Each (Fits c.args.instance.now)) (sym cut.front) (row_fits c.args.instance.now t c.new-course.result c.requires)

pub loop-number-preserved : goal.loop-number-preserved
loop-number-preserved c =
    let t = c.args.timetable.now in
    let f : ℕ → ℕ = λ k. days_cost c.args.instance.now k (course_row k c.args.timetable.now) in
    let cut : IsCut c.new-course.result t c.cut_row.result.0.now c.cut_row.result.1.now = c.cut_row.ensures t c.requires.ascending (c.loop-number.invariant.rest ∙ ap (λ k. from_course k t) (sym c.new-course.ensures)) in
    let here : c.missing_days-total.result ≡ f c.loop-number.number = c.missing_days-total.ensures.value ∙ ap (days_cost c.args.instance.now c.new-course.result) cut.front ∙ ap f c.new-course.ensures in
    record {
      rest = cut.after ∙ ap (λ k. from_course (k + 1) t) c.new-course.ensures;
      so_far = omega (arith, c.loop-number.invariant.so_far, here, sum_below_more f c.loop-number.number);
      small = omega (arith, c.loop-number.invariant.small, c.missing_days-total.ensures.bound);
    }
