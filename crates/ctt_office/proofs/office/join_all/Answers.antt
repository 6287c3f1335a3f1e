use Rattle.std.proofs.Common.{◌≡◌, ◌+◌, ◌<◌, arith, length}
use Rattle.std.specs.Vec.Iter.{into_iter_items}
use Rattle.std.proofs.lemmas.Grind.{common_steps}
use Rattle.ctt_office.proofs.office.join_all.Goals as goal

pub loop-place-preserved : goal.loop-place-preserved
loop-place-preserved g c =
    let seats = length c.args.threads.items in
    let left : c.next.new.self.count + length (into_iter_items c.next.new.self.iter) ≡ seats = grind (arith, common_steps) in
    let within : c.in-Some.place < seats = grind (arith, common_steps) in
    (left, c.ended_also-ended.ensures.fault seats within c.loop-place.invariant.1)
