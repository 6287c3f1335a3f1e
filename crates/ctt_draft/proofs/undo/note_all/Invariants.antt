use Rattle.std.proofs.Common.{◌≡◌, ◌≤◌, ◌+◌, ◌-◌, drop, length}
use Rattle.std.specs.Vec.{vec_len, vec_capacity}
use Rattle.ctt_draft.specs.Undo.{all_noted, IsUndo}
use Rattle.ctt_draft.proofs.undo.note_all.Given as goal

abbrev pub invariant-loop-cell : goal.invariant-loop-cell
invariant-loop-cell g l = record {
  noted : all_noted (g.R.Rooms.list l.rooms) (drop l.cell-index l.cells) l.recorded.items ≡ all_noted (g.R.Rooms.list l.rooms) l.cells l.fn.recorded.items;
  room : vec_len l.recorded + (length l.cells - l.cell-index) ≤ vec_capacity l.recorded;
  courses : l.marks.width ≡ l.fn.marks.width;
  slots : l.marks.rows ≡ l.fn.marks.rows;
  undo : IsUndo l.recorded.items l.marks;
}
