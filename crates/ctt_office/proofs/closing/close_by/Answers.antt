use Rattle.std.proofs.Common.{◌≡◌, ◌∙◌, ◌<◌, ap, arith, length}
use Rattle.std.specs.Vec.{vec_capacity, vec_len}
use Rattle.ctt_office.proofs.ClosingLemmas.{only_pushed, seen_by}
use Rattle.ctt_office.proofs.closing.close_by.Goals as goal

pub returns-in-Ok : goal.returns-in-Ok
returns-in-Ok g c =
    let none : vec_len c.args.list ≡ 0 = c.args.list.ok.0 ∙ ap length c.requires.empty in
    let room : vec_len c.args.list < vec_capacity c.args.list = omega (arith, none, c.requires.room) in
    λ _. seen_by _ c.args.planner c.in-Ok.closed (c.as_mut_slice.ensures.value ∙ only_pushed c.push.result c.args.list.items c.push.new.self.items c.args.planner c.push.ensures.items (c.push.ensures.succeeds room) c.requires.empty) c.in-Ok.ensures.ok
