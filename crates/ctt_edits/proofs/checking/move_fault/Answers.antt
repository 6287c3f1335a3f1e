use Rattle.std.proofs.Common.{rules, ◌≡◌, ◌<◌, ◌∙◌, ap, sym, true, not, is_some}
use Rattle.ctt_problem.specs.Problem.{Problem, course_count, slot_count, room_count}
use Rattle.ctt_board.specs.Changes.{room_at}
use Rattle.ctt_edits.proofs.checking.move_fault.Goals as goal

pub replace_fault-requires : goal.replace_fault-requires
replace_fault-requires g c κs =
    let i : Problem = g.S.Rooms.problem c.args.sheet.now in
    let o = room_at c.args.course c.args.slot (g.S.Rooms.list c.args.sheet.now) in
    let there : is_some o ≡ true = sym (ap is_some c.room_at.ensures) ∙ c.is_none.ensures ∙ ap not c.if-is_none.false in
    let course : c.args.course < course_count i = c.requires.0 in
    let slot : c.args.slot < slot_count i = c.requires.1 in
    let target : c.args.target < slot_count i = c.requires.2 in
    let room : c.args.room < room_count i = c.requires.3 in
    search rules
