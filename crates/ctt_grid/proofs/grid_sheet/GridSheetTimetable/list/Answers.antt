use Rattle.std.proofs.Common.{rules, ◌≡◌, ◌∙◌, ◌++◌, ℕ, Option, add-one, sym, ap, ap₂, arith}
use Rattle.ctt_problem.specs.Problem.{course_count, slot_count}
use Rattle.ctt_problem.specs.Timetable.{course_row}
use Rattle.ctt_board.specs.Boards.{Board}
use Rattle.ctt_board.specs.Changes.{room_at}
use Rattle.ctt_board.specs.Cells.{rows_below}
use Rattle.ctt_board.proofs.CellLemmas.{timetable_is}
use Rattle.ctt_board.proofs.RowLemmas.{course_row_is}
use Rattle.ctt_grid.proofs.grid_sheet.GridSheetTimetable.list.Goals as goal

pub loop-course-preserved : goal.loop-course-preserved
loop-course-preserved c =
    let b = c.args.self.now in
    let n = c.loop-course.course in
    let course : c.new.result ≡ n = search rules in
    rw add-one (c.in_ok-append_course_row.ensures.row ∙ ap₂ (λ ls k. ls ++ course_row k b.list) c.loop-course.invariant course ∙ ap (λ ls. rows_below (λ k s. room_at k s b.list) (slot_count b.problem) n ++ ls) (course_row_is b.problem b.list n c.lawful.ensures.timetable))

pub returns : goal.returns
returns c =
    let b = c.args.self.now in
    let f : ℕ → ℕ → Option ℕ = λ k s. room_at k s b.list in
    let all : c.courses-course-end.result ≡ course_count b.problem = c.courses-course-end.ensures.exact ∙ ap (λ (b : Board). course_count b.problem) c.self.view_is in
    let end : c.loop-course.course ≡ course_count b.problem = omega (arith, all, c.loop-course-test.false, c.loop-course.auto.course-end) in
    c.loop-course.invariant ∙ ap (rows_below f (slot_count b.problem)) end ∙ sym (timetable_is b.problem b.list c.lawful.ensures.timetable)
