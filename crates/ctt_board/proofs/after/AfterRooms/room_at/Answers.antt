use Rattle.std.proofs.Common.{◌∙◌, sym, ap}
use Rattle.ctt_board.specs.Changes.{room_by}
use Rattle.ctt_board.proofs.RoomLemmas.{rooms_after}
use Rattle.ctt_board.proofs.after.AfterRooms.room_at.Goals as goal

pub returns : goal.returns
returns g c =
    let cells = c.self.inside.cells.now in
    let t = g.R.Rooms.list c.self.inside.rooms.now in
    rw (← c.self.view_is) (c.last_room.ensures ∙ ap (room_by cells c.args.course c.args.slot) c.room_at.ensures ∙ sym (rooms_after cells t c.self.invariant.fit c.args.course c.args.slot))
