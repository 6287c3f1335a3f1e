use Rattle.std.proofs.Common.{◌≡◌, ◌<◌, ◌==◌, ◌||◌, ◌∙◌, ap, subst}
use Rattle.ctt_problem.specs.Problem.{slot_of}
use Rattle.ctt_problem.specs.Marks.{is_marked}
use Rattle.ctt_text.proofs.ClosingLemmas.{period_more}
use Rattle.ctt_text.proofs.instance.closing.mark_day.Goals as goal

pub loop-period-preserved : goal.loop-period-preserved
loop-period-preserved c =
    let i = c.args.instance.now in
    let slot : c.get.result ≡ slot_of i c.args.day c.loop-period.period = c.get.ensures ∙ c.slot_of.ensures.exact in
    let below : c.loop-period.period < i.periods = subst (λ m. c.loop-period.period < m) c.periods-period-end.ensures.exact c.loop-period-test.true in
    λ n. period_more i c.args.day c.loop-period.period n (is_marked c.args.marks.now n) (is_marked c.loop-period.marks n) (is_marked c.mark.new.self n) c.requires below (c.loop-period.invariant n)
    (c.mark.ensures.marked n ∙ ap (λ s. n == s || is_marked c.loop-period.marks n) slot)
