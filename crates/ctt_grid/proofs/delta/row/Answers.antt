use Rattle.std.proofs.Common.{◌≡◌, ◌∙◌, ◌++◌, ◌∷◌, [], ℕ, Option, List, sym, ap, arith}
use Rattle.ctt_problem.specs.Problem.{slot_count}
use Rattle.ctt_problem.specs.declared.placed.Placed.{Placed}
use Rattle.ctt_board.specs.Changes.{room_at}
use Rattle.ctt_board.specs.Cells.{row_below}
use Rattle.ctt_board.proofs.RowLemmas.{course_row_is}
use Rattle.ctt_grid.proofs.RowLemmas.{row_more_some, row_more_none}
use Rattle.ctt_grid.proofs.delta.row.Goals as goal
use Rattle.ctt_grid.proofs.delta.row.Goals.{in-Some, in_default}

pub loop-number-preserved : goal.loop-number-preserved
loop-number-preserved g c =
    let f : ℕ → Option ℕ = λ s. room_at c.args.course s c.args.after.now.list in
    let n = c.loop-number.number in
    let here : c.room_at.result ≡ f n = c.room_at.ensures ∙ ap f c.new-slot.ensures in
    let inv = c.loop-number.invariant in
    elim c.match-room_at.branch [
      | in-Some w ↦ (
          let r = w.in-Some.room in
          let lecture : ℕ → Placed = λ s. record { course = c.args.course; slot = s; room = r } in
          let rows : List Placed = row_below f c.args.course n in
          record {
            so_far = rw w.row-is (w.push.ensures.items ∙ ap (λ s. c.loop-number.row.items ++ lecture s ∷ []) c.new-slot.ensures ∙ ap (λ ls. ls ++ lecture n ∷ []) inv.so_far ∙ sym (row_more_some f c.args.course n r (sym here ∙ w.in-Some.is)));
            few = rw w.row-is (omega (arith, w.push.ensures.len, inv.few));
          })
      | in_default w ↦ (
          record {
            so_far = rw w.row-is (inv.so_far ∙ sym (row_more_none f c.args.course n (sym here ∙ w.in_default.is)));
            few = rw w.row-is (omega (arith, inv.few));
          })
    ]

pub returns : goal.returns
returns g c =
    let i = c.args.after.now.problem in
    let t = c.args.after.now.list in
    let f : ℕ → Option ℕ = λ s. room_at c.args.course s t in
    let all : c.slots-number-end.result ≡ slot_count i = c.slots-number-end.ensures.exact ∙ ap slot_count c.instance-instance.ensures in
    let end : c.loop-number.number ≡ slot_count i = omega (arith, all, c.loop-number-test.false, c.loop-number.auto.number-end) in
    c.loop-number.invariant.so_far ∙ ap (row_below f c.args.course) end ∙ sym (course_row_is i t c.args.course c.lawful.ensures.timetable)
