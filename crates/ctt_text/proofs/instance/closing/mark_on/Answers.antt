use Rattle.std.proofs.Common.{◌≡◌, ◌<◌, ◌==◌, ◌&&◌, ◌||◌, nat_lt, ◌∙◌, sym, ap, subst}
use Rattle.std.specs.Prelude.{IfSome}
use Rattle.ctt_problem.specs.Problem.{slot_count, slot_of, day_of, period_of}
use Rattle.ctt_problem.specs.Marks.{is_marked}
use Rattle.ctt_text.specs.BlockedPlaces.{is_chosen}
use Rattle.ctt_text.proofs.ClosingLemmas.{slot_marked}
use Rattle.ctt_text.proofs.instance.closing.mark_on.Goals as goal

pub returns-in-Some : goal.returns-in-Some
returns-in-Some c =
    let i = c.args.instance.now in
    let slot : c.get.result ≡ slot_of i c.args.day c.in-Some.period = c.get.ensures ∙ c.slot_of.ensures.exact in
    let below : c.in-Some.period < i.periods = subst (λ o. IfSome o (λ n. n < i.periods)) c.in-Some.is c.requires.period in
    λ n. subst (λ o. is_marked c.mark.new.self n ≡ (is_marked c.args.marks.now n || (nat_lt n (slot_count i) && (day_of i n == c.args.day && is_chosen o (period_of i n))))) (sym c.in-Some.is)
    (slot_marked i c.args.day c.in-Some.period n (is_marked c.args.marks.now n) (is_marked c.mark.new.self n) c.requires.day below
    (c.mark.ensures.marked n ∙ ap (λ s. n == s || is_marked c.args.marks.now n) slot))
