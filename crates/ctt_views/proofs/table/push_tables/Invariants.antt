use Rattle.std.proofs.Common.{◌≡◌, ◌++◌, string_bytes}
use Rattle.ctt_views.specs.Week.{for_each, gap, table}
use Rattle.ctt_views.specs.declared.selection.Selection.TheVariants.{Room}
use Rattle.ctt_views.proofs.table.push_tables.Given as goal

abbrev pub invariant-loop-number : goal.invariant-loop-number
invariant-loop-number l = string_bytes l.text ≡ string_bytes l.initial.text ++ for_each (λ r. gap r ++ table l.instance (Room r) l.timetable) l.number
