use Rattle.std.proofs.Common.{◌∙◌, sym, ap, subst, length, leb, false, is_some}
use Rattle.std.proofs.lemmas.Bool.{and_parts}
use Rattle.ctt_rules.specs.Hard.{Lawful}
use Rattle.ctt_board.specs.Boards.{Board}
use Rattle.ctt_board.specs.Changes.{in_turn, room_at, stands_by}
use Rattle.ctt_board.proofs.BetweenLemmas.{courses_few}
use Rattle.ctt_board.proofs.ClashLemmas.{stands_by_room}
use Rattle.ctt_board.proofs.RoomLemmas.{rooms_after}
use Rattle.ctt_board.proofs.after.AfterRooms.standing.Goals as goal

pub change_standing-requires : goal.change_standing-requires
change_standing-requires g c =
    let cells = c.self.inside.cells.now in
    let t = g.R.Rooms.list c.self.inside.rooms.now in
    let i = c.self.inside.instance.now in
    let lawful : Lawful i t = subst (λ p. Lawful p t) c.self.invariant.same c.lawful.ensures in
    let turn = (and_parts (leb (length cells) 4) (in_turn false cells) c.self.invariant.change).1 in
    courses_few i cells t lawful turn c.self.invariant.fit c.self.invariant.lawful c.limits_hold.ensures

pub returns : goal.returns
returns g c = λ course.
    let cells = c.self.inside.cells.now in
    let t = g.R.Rooms.list c.self.inside.rooms.now in
    c.change_standing.ensures course
    ∙ ap (stands_by cells course c.args.slot) (c.standing-standing.ensures course)
    ∙ stands_by_room cells course c.args.slot (room_at course c.args.slot t)
    ∙ ap is_some (sym (rooms_after cells t c.self.invariant.fit course c.args.slot))
    ∙ ap (λ (b : Board). is_some (room_at course c.args.slot b.list)) c.self.view_is
