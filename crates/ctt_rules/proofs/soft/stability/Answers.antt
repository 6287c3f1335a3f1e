use Rattle.std.proofs.Common.{◌≡◌, ◌+◌, ◌∙◌, ℕ, ap, sym, subst, refl, arith}
use Rattle.std.specs.List.{AllByRecursion as Each}
use Rattle.ctt_problem.specs.Timetable.{Fits, course_row}
use Rattle.ctt_rules.specs.Penalty.{rooms_cost}
use Rattle.ctt_rules.specs.Rows.{from_course, IsCut}
use Rattle.ctt_rules.proofs.RowLemmas.{from_first}
use Rattle.ctt_rules.proofs.SumLemmas.{sum_below_more}
use Rattle.ctt_rules.proofs.TimetableLemmas.{row_fits}
use Rattle.ctt_rules.proofs.soft.stability.Goals as goal

pub loop-number-init : goal.loop-number-init
loop-number-init c = record { rest = from_first c.args.timetable.now; so_far = refl; small = omega arith }

pub surplus_rooms-total-requires : goal.surplus_rooms-total-requires
surplus_rooms-total-requires c =
    let t = c.args.timetable.now in
    let cut : IsCut c.new.result t c.cut_row.result.0.now c.cut_row.result.1.now = c.cut_row.ensures t c.requires.ascending (c.loop-number.invariant.rest ∙ ap (λ k. from_course k t) (sym c.new.ensures)) in
    subst (Each (Fits c.args.instance.now)) (sym cut.front) (row_fits c.args.instance.now t c.new.result c.requires)

pub loop-number-preserved : goal.loop-number-preserved
loop-number-preserved c =
    let t = c.args.timetable.now in
    let f : ℕ → ℕ = λ k. rooms_cost c.args.instance.now (course_row k c.args.timetable.now) in
    let cut : IsCut c.new.result t c.cut_row.result.0.now c.cut_row.result.1.now = c.cut_row.ensures t c.requires.ascending (c.loop-number.invariant.rest ∙ ap (λ k. from_course k t) (sym c.new.ensures)) in
    let here : c.surplus_rooms-total.result ≡ f c.loop-number.number = c.surplus_rooms-total.ensures.value ∙ ap (rooms_cost c.args.instance.now) cut.front ∙ ap f c.new.ensures in
    record {
      rest = cut.after ∙ ap (λ k. from_course (k + 1) t) c.new.ensures;
      so_far = omega (arith, c.loop-number.invariant.so_far, here, sum_below_more f c.loop-number.number);
      small = omega (arith, c.loop-number.invariant.small, c.surplus_rooms-total.ensures.bound);
    }
