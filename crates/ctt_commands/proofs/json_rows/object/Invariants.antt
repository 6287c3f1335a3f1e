use Rattle.std.proofs.Common.{◌≡◌, drop}
use Rattle.serde_json.specs.Data.{no_members}
use Rattle.serde_json.specs.View.{members_view}
use Rattle.ctt_commands.specs.Tables.{with_cells}
use Rattle.ctt_commands.proofs.json_rows.object.Given as goal

-- the members so far, and the cells of the columns that are left
abbrev pub invariant-loop-column : goal.invariant-loop-column
invariant-loop-column l = with_cells l.row (drop l.column-index l.columns) (members_view l.members.entries) ≡ with_cells l.row l.columns no_members
