use Rattle.std.proofs.Common.{rules, ◌<◌, List, ap, arith}
use Rattle.ctt_problem.specs.Problem.{Problem, slot_count}
use Rattle.ctt_problem.specs.declared.placed.Placed.{Placed}
use Rattle.ctt_edits.proofs.OfferLemmas.{offers_more}
use Rattle.ctt_edits.proofs.offering.offers.Goals as goal

pub slot_offer-requires : goal.slot_offer-requires
slot_offer-requires g c κs =
    let within : c.new.result < slot_count (g.S.Rooms.problem c.args.sheet.now) = omega (arith, c.loop-slot-test.true, c.new.ensures, c.slots-slot-end.ensures.exact, ap slot_count c.instance.ensures) in
    search rules

pub loop-slot-preserved : goal.loop-slot-preserved
loop-slot-preserved g c =
    let i : Problem = g.S.Rooms.problem c.args.sheet.now in
    let t : List Placed = g.S.Rooms.list c.args.sheet.now in
    offers_more i t c.args.pattern.now c.loop-slot.slot c.slots-slot-end.result c.new.result c.loop-slot.list c.push.new.self _ c.slot_offer.result c.loop-slot-test.true c.new.ensures c.slot_offer.ensures c.in_ok-push.ensures c.loop-slot.invariant
