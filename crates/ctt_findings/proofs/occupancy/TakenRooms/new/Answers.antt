use Rattle.std.proofs.Common.{◌≡◌, replicate, sym, subst, false}
use Rattle.ctt_rules.specs.Earlier.{in_row}
use Rattle.ctt_rules.proofs.ConflictLemmas.{no_rows}
use Rattle.ctt_findings.proofs.occupancy.TakenRooms.new.Goals as goal

pub returns-clause-none : goal.returns-clause-none
returns-clause-none c s r =
    let all : c.in_ok-slots.slots.items ≡ replicate c.args.slots c.new.result = c.in_ok-slots.ensures.items_if_clones_equal (λ y e. e) in
    subst (λ rows. in_row rows s r ≡ false) (sym all) (no_rows c.new.result c.new.ensures c.args.slots s r)
