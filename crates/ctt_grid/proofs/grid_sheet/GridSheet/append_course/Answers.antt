use Rattle.std.proofs.Common.{rules, ◌≡◌, ◌∙◌, ◌<◌, ◌+◌, ◌++◌, ◌∷◌, [], ℕ, Option, length, append_assoc, sym, ap, subst, arith}
use Rattle.std.specs.Vec.{vec_len, vec_capacity}
use Rattle.std.proofs.lemmas.List.{length-append}
use Rattle.ctt_problem.specs.Problem.{slot_count}
use Rattle.ctt_problem.specs.Timetable.{course_row}
use Rattle.ctt_problem.specs.declared.placed.Placed.{Placed}
use Rattle.ctt_board.specs.Boards.{Board}
use Rattle.ctt_board.specs.Cells.{row_below}
use Rattle.ctt_board.specs.Changes.{room_at}
use Rattle.ctt_board.proofs.RowLemmas.{course_row_is}
use Rattle.ctt_grid.specs.Grids.{AreRooms}
use Rattle.ctt_grid.proofs.GridLemmas.{cell_is}
use Rattle.ctt_grid.proofs.RowLemmas.{row_more_some, row_more_none, row_has}
use Rattle.ctt_grid.proofs.grid_sheet.GridSheet.append_course.Goals as goal
use Rattle.ctt_grid.proofs.grid_sheet.GridSheet.append_course.Goals.{in-Some, in_default}

pub unwrap-requires : goal.unwrap-requires
unwrap-requires c =
    let b = c.args.self.now in
    let f : ℕ → Option ℕ = λ s. room_at c.args.course s b.list in
    let n = c.loop-number.number in
    let inv = c.loop-number.invariant in
    let rooms : AreRooms b.problem b.list c.self.inside.tables.rooms = subst (λ (b : Board). AreRooms b.problem b.list c.self.inside.tables.rooms) c.self.view_is c.self.invariant.tables_are.rooms_are in
    let here : c.room.result ≡ f n = c.room.ensures ∙ cell_is b.problem b.list c.self.inside.tables.rooms c.row-row.result.now c.args.course c.get.result n c.index-row-number.result rooms c.requires.course c.get.ensures c.row-row.ensures.length c.row-row.ensures.cells c.loop-number-test.true c.index-row-number.is in
    let within : n < slot_count b.problem = omega (arith, c.loop-number-test.true, c.row-row.ensures.length, rooms.size.1) in
    let all : length (course_row c.args.course b.list) ≡ length (row_below f c.args.course (slot_count b.problem)) = ap length (course_row_is b.problem b.list c.args.course c.lawful.ensures.timetable) in
    let items : length c.loop-number.list.items ≡ length c.args.list.now.items + length (row_below f c.args.course n) = ap length inv.so_far ∙ length-append c.args.list.now.items (row_below f c.args.course n) in
    let room : vec_len c.loop-number.list < vec_capacity c.loop-number.list = omega (arith, c.requires.room, inv.room, items, all, row_has f c.args.course n (slot_count b.problem) c.in-Some.room within (sym here ∙ c.in-Some.is), c.loop-number.list.ok, c.args.list.now.ok) in
    c.push.ensures.succeeds room

pub loop-number-preserved : goal.loop-number-preserved
loop-number-preserved c =
    let b = c.args.self.now in
    let f : ℕ → Option ℕ = λ s. room_at c.args.course s b.list in
    let n = c.loop-number.number in
    let inv = c.loop-number.invariant in
    let was = c.args.list.now.items in
    let rooms : AreRooms b.problem b.list c.self.inside.tables.rooms = subst (λ (b : Board). AreRooms b.problem b.list c.self.inside.tables.rooms) c.self.view_is c.self.invariant.tables_are.rooms_are in
    let here : c.room.result ≡ f n = c.room.ensures ∙ cell_is b.problem b.list c.self.inside.tables.rooms c.row-row.result.now c.args.course c.get.result n c.index-row-number.result rooms c.requires.course c.get.ensures c.row-row.ensures.length c.row-row.ensures.cells c.loop-number-test.true c.index-row-number.is in
    elim c.match-room.branch [
      | in-Some w ↦ (
          let r = w.in-Some.room in
          let lecture : ℕ → Placed = λ s. record { course = c.args.course; slot = s; room = r } in
          let pushed : w.push.new.self.items ≡ c.loop-number.list.items ++ lecture w.new-slot.result ∷ [] = search rules in
          record {
            so_far = rw w.list-is (pushed ∙ ap (λ s. c.loop-number.list.items ++ lecture s ∷ []) w.new-slot.ensures ∙ ap (λ ls. ls ++ lecture n ∷ []) inv.so_far ∙ append_assoc was (row_below f c.args.course n) (lecture n ∷ []) ∙ ap (λ ls. was ++ ls) (sym (row_more_some f c.args.course n r (sym here ∙ w.in-Some.is))));
            room = rw w.list-is (omega (arith, inv.room, w.push.ensures.capacity));
          })
      | in_default w ↦ (
          record {
            so_far = rw w.list-is (inv.so_far ∙ ap (λ ls. was ++ ls) (sym (row_more_none f c.args.course n (sym here ∙ w.in_default.is))));
            room = rw w.list-is inv.room;
          })
    ]

pub returns : goal.returns
returns c =
    let b = c.args.self.now in
    let f : ℕ → Option ℕ = λ s. room_at c.args.course s b.list in
    let all : length c.row-row.result.now ≡ slot_count b.problem = c.row-row.ensures.length ∙ c.self.invariant.tables_are.rooms_are.size.1 ∙ ap (λ (b : Board). slot_count b.problem) c.self.view_is in
    let end : c.loop-number.number ≡ slot_count b.problem = omega (arith, all, c.loop-number-test.false, c.loop-number.auto.number-end) in
    c.loop-number.invariant.so_far ∙ ap (λ ls. c.args.list.now.items ++ ls) (ap (row_below f c.args.course) end ∙ sym (course_row_is b.problem b.list c.args.course c.lawful.ensures.timetable))
