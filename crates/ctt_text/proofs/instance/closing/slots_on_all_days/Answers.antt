use Rattle.std.proofs.Common.{◌≤◌, ◌∙◌, subst}
use Rattle.ctt_problem.specs.Problem.{period_of}
use Rattle.ctt_text.specs.BlockedPlaces.{is_chosen}
use Rattle.ctt_text.proofs.ClosingLemmas.{on_day}
use Rattle.ctt_text.proofs.instance.closing.slots_on_all_days.Goals as goal

pub returns : goal.returns
returns c =
    let i = c.args.instance.now in
    let all : i.days ≤ c.loop-day.day = subst (λ m. m ≤ c.loop-day.day) c.days-day-end.ensures.exact c.loop-day-test.false in
    λ n. c.loop-day.invariant n ∙ on_day i c.loop-day.day n (is_chosen c.args.period (period_of i n)) all
