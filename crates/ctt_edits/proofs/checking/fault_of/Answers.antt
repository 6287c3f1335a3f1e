use Rattle.std.proofs.Common.{rules}
use Rattle.ctt_edits.specs.Edits.{EditFits}
use Rattle.ctt_edits.specs.declared.edit.Edit.TheVariants.{Place, Move, Swap, Reroom, Drop}
use Rattle.ctt_edits.proofs.checking.fault_of.Goals as goal

pub place_fault-requires-clause-course : goal.place_fault-requires-clause-course
place_fault-requires-clause-course g c =
    let fits : EditFits (g.S.Rooms.problem c.args.sheet.now) (Place c.in-Place.course c.in-Place.slot c.in-Place.room) = rw c.in-Place.is at c.requires in
    rw c.instance.ensures fits.0

pub place_fault-requires-clause-slot : goal.place_fault-requires-clause-slot
place_fault-requires-clause-slot g c =
    let fits : EditFits (g.S.Rooms.problem c.args.sheet.now) (Place c.in-Place.course c.in-Place.slot c.in-Place.room) = rw c.in-Place.is at c.requires in
    rw c.instance.ensures fits.1

pub move_fault-requires : goal.move_fault-requires
move_fault-requires g c κs =
    let fits : EditFits (g.S.Rooms.problem c.args.sheet.now) (Move c.in-Move.course c.in-Move.slot c.in-Move.target c.in-Move.room) = rw c.in-Move.is at c.requires in
    search rules

pub swap_fault-requires : goal.swap_fault-requires
swap_fault-requires g c κs =
    let fits : EditFits (g.S.Rooms.problem c.args.sheet.now) (Swap c.in-Swap.course c.in-Swap.slot c.in-Swap.other c.in-Swap.other_slot) = rw c.in-Swap.is at c.requires in
    search rules

pub reroom_fault-requires : goal.reroom_fault-requires
reroom_fault-requires g c κs =
    let fits : EditFits (g.S.Rooms.problem c.args.sheet.now) (Reroom c.in-Reroom.course c.in-Reroom.slot c.in-Reroom.room) = rw c.in-Reroom.is at c.requires in
    search rules

pub drop_fault-requires : goal.drop_fault-requires
drop_fault-requires g c κs =
    let fits : EditFits (g.S.Rooms.problem c.args.sheet.now) (Drop c.in-Drop.course c.in-Drop.slot) = rw c.in-Drop.is at c.requires in
    search rules

pub place_fault-requires-clause-room : goal.place_fault-requires-clause-room
place_fault-requires-clause-room g c =
    let fits : EditFits (g.S.Rooms.problem c.args.sheet.now) (Place c.in-Place.course c.in-Place.slot c.in-Place.room) = rw c.in-Place.is at c.requires in
    rw c.instance.ensures fits.2
