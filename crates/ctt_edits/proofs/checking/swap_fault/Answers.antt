use Rattle.std.proofs.Common.{rules, ◌≡◌, ◌∙◌, sym, Some, false, ◌==◌, List}
use Rattle.ctt_problem.specs.Problem.{Problem}
use Rattle.ctt_problem.specs.Timetable.{Fits}
use Rattle.ctt_problem.specs.declared.placed.Placed.{Placed}
use Rattle.ctt_board.specs.Changes.{room_at}
use Rattle.ctt_board.proofs.BetweenLemmas.{there_fits}
use Rattle.ctt_edits.proofs.checking.swap_fault.Goals as goal

pub exchange_fault-requires : goal.exchange_fault-requires
exchange_fault-requires g c κs =
    let i : Problem = g.S.Rooms.problem c.args.sheet.now in
    let t : List Placed = g.S.Rooms.list c.args.sheet.now in
    let there : room_at c.args.course c.args.slot t ≡ Some c.in-Some.room = sym c.room_at.ensures ∙ c.in-Some.is in
    let other_there : room_at c.args.other c.args.other_slot t ≡ Some c.in-Some-room_at.other_room = sym c.room_at-2.ensures ∙ c.in-Some-room_at.is in
    let fits : Fits i (record { course = c.args.course; slot = c.args.slot; room = c.in-Some.room }) = there_fits i c.args.course c.args.slot c.in-Some.room t c.lawful.ensures there in
    let other_fits : Fits i (record { course = c.args.other; slot = c.args.other_slot; room = c.in-Some-room_at.other_room }) = there_fits i c.args.other c.args.other_slot c.in-Some-room_at.other_room t c.lawful.ensures other_there in
    let apart : (c.args.course == c.args.other) ≡ false = sym c.eq.ensures ∙ c.if-eq.false in
    search rules
