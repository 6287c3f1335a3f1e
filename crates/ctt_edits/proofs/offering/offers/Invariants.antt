use Rattle.std.proofs.Common.{◌≡◌, ◌++◌, map}
use Rattle.ctt_edits.specs.Candidates.{from_to}
use Rattle.ctt_edits.specs.Offers.{slot_offer, offers}
use Rattle.ctt_edits.proofs.offering.offers.Given as goal

abbrev pub invariant-loop-slot : goal.invariant-loop-slot
invariant-loop-slot g l =
    l.list ++ map (slot_offer (g.S.Rooms.problem l.sheet) (g.S.Rooms.list l.sheet) l.pattern) (from_to l.slot l.slot-end) ≡ offers (g.S.Rooms.problem l.sheet) (g.S.Rooms.list l.sheet) l.pattern
