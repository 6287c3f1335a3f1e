use Rattle.std.proofs.Common.{rules, ◌≡◌, ◌∙◌, ◌++◌, ℕ, Option, sym, ap, ap₂, arith}
use Rattle.ctt_problem.specs.Marks.{is_marked}
use Rattle.ctt_problem.specs.Problem.{course_count}
use Rattle.ctt_board.specs.Boards.{Board}
use Rattle.ctt_board.specs.Cells.{lecture_at, column_below}
use Rattle.ctt_board.specs.Changes.{room_at}
use Rattle.ctt_board.proofs.CellLemmas.{slot_row_is}
use Rattle.ctt_grid.proofs.ColumnLemmas.{column_more, column_end}
use Rattle.ctt_grid.proofs.grid_sheet.GridSheetTimetable.slot_row.Goals as goal

pub loop-course-preserved : goal.loop-course-preserved
loop-course-preserved c =
    let b = c.args.self.now in
    let s = c.args.slot in
    let f : ℕ → Option ℕ = λ n. room_at n s b.list in
    let k : ℕ = c.in-Some.course in
    let all : c.courses-end.result ≡ course_count b.problem = c.courses-end.ensures.exact ∙ ap (λ (b : Board). course_count b.problem) c.self.view_is in
    let same : c.new.result ≡ k = search rules in
    record {
      so_far = c.in_ok-append_lecture.ensures ∙ ap₂ (λ xs n. xs ++ lecture_at n s (f n)) c.loop-course.invariant.so_far same
          ∙ sym (column_more f (is_marked c.standing-courses.result) c.standing-courses.ensures s c.loop-course.from c.courses-end.result k c.in-Some.ensures.least);
      within = omega (arith, c.in-Some.ensures.within, all);
    }

pub returns : goal.returns
returns c =
    let b = c.args.self.now in
    let s = c.args.slot in
    let f : ℕ → Option ℕ = λ n. room_at n s b.list in
    let all : c.courses-end.result ≡ course_count b.problem = c.courses-end.ensures.exact ∙ ap (λ (b : Board). course_count b.problem) c.self.view_is in
    c.loop-course.invariant.so_far ∙ sym (column_end f (is_marked c.standing-courses.result) c.standing-courses.ensures s c.loop-course.from c.courses-end.result c.in_default.ensures.least (omega (arith, all, c.loop-course.invariant.within)))
    ∙ ap (column_below f s) all ∙ sym (slot_row_is b.problem b.list s c.lawful.ensures.timetable)
