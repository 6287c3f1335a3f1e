use Rattle.std.proofs.Common.{rules, ◌≡◌, ◌<◌, ◌∙◌, is_some, sym, ap, subst}
use Rattle.ctt_problem.specs.Problem.{slot_count}
use Rattle.ctt_board.specs.Boards.{Board}
use Rattle.ctt_board.specs.Changes.{room_at}
use Rattle.ctt_problem.specs.BitRows.{is_marked_in}
use Rattle.ctt_grid.proofs.grid_sheet.GridSheetRooms.standing.Goals as goal

pub returns : goal.returns
returns c = λ course.
    let slot : c.args.slot < slot_count c.self.inside.instance.now = subst (λ (b : Board). c.args.slot < slot_count b.problem) (sym c.self.view_is) c.requires in
    let same : c.get.result ≡ c.args.slot = search rules in
    c.row.ensures course ∙ ap (λ s. is_marked_in c.self.inside.tables.courses_in_slot s course) same ∙ c.self.invariant.tables_are.courses_in_slot_are.courses c.args.slot course slot ∙ ap (λ (b : Board). is_some (room_at course c.args.slot b.list)) c.self.view_is
