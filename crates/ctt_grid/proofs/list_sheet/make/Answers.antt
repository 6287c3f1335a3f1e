use Rattle.std.proofs.Common.{◌≡◌, ◌+◌, ◌<◌, ◌≤◌, drop, length, arith, ◌∙◌, ap}
use Rattle.std.specs.Vec.{vec_capacity}
use Rattle.ctt_board.specs.Changes.{apply, apply_at}
use Rattle.ctt_grid.proofs.CellLemmas.{made_more, turn_more, room_now}
use Rattle.ctt_grid.proofs.list_sheet.make.Goals as goal
use Rattle.ctt_grid.proofs.list_sheet.make.Goals.{in-None, in-Some}

pub add-requires : goal.add-requires
add-requires c =
    let room : length c.loop-cell.lectures.items < length (apply c.args.cells.now c.args.lectures.now.items) =
    room_now c.args.cells.now c.loop-cell.cell-index c.cell-item.result c.in-Some.room c.loop-cell.lectures.items (apply c.args.cells.now c.args.lectures.now.items) c.loop-cell-test.true c.cell-item.is c.in-Some.is c.loop-cell.invariant.same c.loop-cell.invariant.turn in
    let fits : length (apply c.args.cells.now c.args.lectures.now.items) ≤ vec_capacity c.args.lectures.now = c.requires.room in
    let kept : vec_capacity c.args.lectures.now ≤ vec_capacity c.loop-cell.lectures = c.loop-cell.invariant.room in
    omega (arith, c.loop-cell.lectures.ok)

pub loop-cell-preserved : goal.loop-cell-preserved
loop-cell-preserved c =
    let x = c.cell-item.result in
    let k = c.loop-cell.cell-index in
    let next = made_more c.args.cells.now k x c.loop-cell.lectures.items (apply c.args.cells.now c.args.lectures.now.items) c.loop-cell-test.true c.cell-item.is c.loop-cell.invariant.same in
    let turn = turn_more c.args.cells.now k x c.loop-cell-test.true c.cell-item.is c.loop-cell.invariant.turn in
    let kept : vec_capacity c.args.lectures.now ≤ vec_capacity c.loop-cell.lectures = c.loop-cell.invariant.room in
    elim c.match-cell.branch [
      | in-None w ↦ (
          let made : c.match-cell.lectures.items ≡ apply_at x.course x.slot x.room c.loop-cell.lectures.items = rw (w.lectures-is, w.in-None.is) w.remove.ensures.items in
          record { same = ap (apply (drop (k + 1) c.args.cells.now)) made ∙ next; turn = turn; room = rw w.lectures-is (omega (arith, kept, w.remove.ensures.capacity)) })
      | in-Some w ↦ (
          let made : c.match-cell.lectures.items ≡ apply_at x.course x.slot x.room c.loop-cell.lectures.items = rw (w.lectures-is, w.in-Some.is) w.add.ensures.items in
          record { same = ap (apply (drop (k + 1) c.args.cells.now)) made ∙ next; turn = turn; room = rw w.lectures-is (omega (arith, kept, w.add.ensures.capacity)) })
    ]
