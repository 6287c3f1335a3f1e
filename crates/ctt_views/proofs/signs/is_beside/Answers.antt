use Rattle.std.proofs.Common.{arith}
use Rattle.std.proofs.lemmas.Nat.{mod_below}
use Rattle.ctt_rules.proofs.SlotLemmas.{periods_above}
use Rattle.ctt_views.proofs.signs.is_beside.Goals as goal

pub overflow_add-period : goal.overflow_add-period
overflow_add-period c =
    let i = c.args.instance.now in
    omega (arith, c.period_of-period.ensures.exact, mod_below c.args.slot i.periods (periods_above i c.args.slot c.requires.slot), c.limits_hold.ensures.periods_few)
