use Rattle.std.proofs.Common.{◌≡◌, ◌∙◌, sym, ap, subst, arith}
use borrow.Author.Count.{below_more}
use Rattle.ctt_problem.specs.Problem.{slot_count}
use Rattle.ctt_problem.specs.Timetable.{course_row}
use Rattle.ctt_board.specs.Changes.{room_at}
use Rattle.ctt_board.proofs.SameLemmas.{course_rows_same, room_by_course_row, agree}
use Rattle.ctt_draft.specs.Comparisons.{base_of}
use Rattle.ctt_draft.proofs.CompareLemmas.{course_other, cell_other, same_in_course}
use Rattle.ctt_draft.proofs.comparing.Comparison.same_course_row.Goals as goal

pub returns-then-has_other_in_course : goal.returns-then-has_other_in_course
returns-then-has_other_in_course g c = course_other c.args.self.now c.are_timetables.ensures c.args.course (sym c.has_other_in_course.ensures ∙ c.if-has_other_in_course.true)

pub returns-then-not-is_same_or_recorded : goal.returns-then-not-is_same_or_recorded
returns-then-not-is_same_or_recorded g c =
    cell_other c.args.self.now c.are_timetables.ensures c.args.course c.new.result (course_row c.args.course (base_of c.args.self.now) ≡ course_row c.args.course c.args.self.now.sheet)
    (sym c.is_same_or_recorded.ensures ∙ c.if-not-is_same_or_recorded.true)
    (λ q. room_by_course_row (base_of c.args.self.now) c.args.self.now.sheet c.args.course c.new.result q)

pub loop-number-preserved : goal.loop-number-preserved
loop-number-preserved g c =
    below_more (λ n. room_at c.args.course n (base_of c.args.self.now) ≡ room_at c.args.course n c.args.self.now.sheet) c.loop-number.number c.loop-number.invariant
    (subst (λ n. room_at c.args.course n (base_of c.args.self.now) ≡ room_at c.args.course n c.args.self.now.sheet) c.new.ensures
    (same_in_course c.args.self.now c.are_timetables.ensures c.args.course c.new.result (sym c.has_other_in_course.ensures ∙ c.if-has_other_in_course.false) (sym c.is_same_or_recorded.ensures ∙ c.if-not-is_same_or_recorded.false)))

pub returns : goal.returns
returns g c =
    agree (course_row c.args.course (base_of c.args.self.now) ≡ course_row c.args.course c.args.self.now.sheet)
    (course_rows_same c.args.self.now.problem (base_of c.args.self.now) c.args.self.now.sheet c.are_timetables.ensures.base c.are_timetables.ensures.sheet.timetable c.args.course
    (λ n lt. c.loop-number.invariant n (omega (arith, lt, c.loop-number-test.false, c.slots-number-end.ensures.exact, ap slot_count c.instance-instance.ensures))))
