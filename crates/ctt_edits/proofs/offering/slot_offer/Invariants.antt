use Rattle.std.proofs.Common.{◌≡◌, map}
use Rattle.std.specs.List.{AllByRecursion as Each}
use Rattle.ctt_edits.specs.Candidates.{from_to}
use Rattle.ctt_edits.specs.Edits.{EditFits}
use Rattle.ctt_edits.specs.Offers.{edit_to, slot_offer}
use Rattle.ctt_edits.proofs.OfferLemmas.{best_after}
use Rattle.ctt_edits.proofs.offering.slot_offer.Given as goal

abbrev pub invariant-loop-other : goal.invariant-loop-other
invariant-loop-other g l =
    (best_after (g.S.Rooms.problem l.sheet) (g.S.Rooms.list l.sheet) l.best (map (edit_to l.pattern l.slot) (from_to l.other l.other-end)) ≡ slot_offer (g.S.Rooms.problem l.sheet) (g.S.Rooms.list l.sheet) l.pattern l.slot)
    × Each (EditFits (g.S.Rooms.problem l.sheet)) (map (edit_to l.pattern l.slot) (from_to l.other l.other-end))
