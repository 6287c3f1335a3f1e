use Rattle.std.proofs.Common.{◌≡◌, ◌∙◌, true, sym, ap, subst, arith}
use borrow.Author.Count.{below_more}
use Rattle.ctt_problem.specs.Problem.{room_count}
use Rattle.ctt_problem.specs.Timetable.{slot_row}
use Rattle.ctt_board.proofs.SameLemmas.{slot_rows_same, agree}
use Rattle.ctt_draft.specs.Comparisons.{base_of, agrees_in_room}
use Rattle.ctt_draft.proofs.CompareLemmas.{slot_other, room_other, same_in_slot}
use Rattle.ctt_draft.proofs.comparing.Comparison.same_slot_row.Goals as goal

pub returns-then-has_other_in_slot : goal.returns-then-has_other_in_slot
returns-then-has_other_in_slot g c = slot_other c.args.self.now c.are_timetables.ensures c.args.slot (sym c.has_other_in_slot.ensures ∙ c.if-has_other_in_slot.true)

pub returns-then-not-agrees_in_room : goal.returns-then-not-agrees_in_room
returns-then-not-agrees_in_room g c = room_other c.args.self.now c.are_timetables.ensures c.args.slot c.new.result (sym c.agrees_in_room.ensures ∙ c.if-not-agrees_in_room.true)

pub loop-number-preserved : goal.loop-number-preserved
loop-number-preserved g c =
    below_more (λ r. agrees_in_room c.args.slot r c.args.self.now ≡ true) c.loop-number.number c.loop-number.invariant
    (subst (λ r. agrees_in_room c.args.slot r c.args.self.now ≡ true) c.new.ensures (sym c.agrees_in_room.ensures ∙ c.if-not-agrees_in_room.false))

pub returns : goal.returns
returns g c =
    agree (slot_row c.args.slot (base_of c.args.self.now) ≡ slot_row c.args.slot c.args.self.now.sheet)
    (slot_rows_same c.args.self.now.problem (base_of c.args.self.now) c.args.self.now.sheet c.are_timetables.ensures.base c.are_timetables.ensures.sheet.timetable c.args.slot
    (λ n lt. same_in_slot c.args.self.now c.are_timetables.ensures n c.args.slot (sym c.has_other_in_slot.ensures ∙ c.if-has_other_in_slot.false)
    (λ r less. c.loop-number.invariant r (omega (arith, less, c.loop-number-test.false, c.rooms-number-end.ensures.exact, ap room_count c.instance-instance.ensures)))))
