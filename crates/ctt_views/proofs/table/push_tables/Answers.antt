use Rattle.std.proofs.Common.{string_bytes}
use Rattle.ctt_views.specs.Week.{gap, table}
use Rattle.ctt_views.specs.declared.selection.Selection.TheVariants.{Room}
use Rattle.ctt_views.proofs.WeekLemmas.{two_more}
use Rattle.ctt_views.proofs.table.push_tables.Goals as goal

pub loop-number-preserved : goal.loop-number-preserved
loop-number-preserved c =
    two_more gap (λ r. table c.args.instance.now (Room r) c.args.timetable.now) c.loop-number.number c.new.result (string_bytes c.args.text.now)
    (string_bytes c.loop-number.text) (string_bytes c.push_gap.new.text) (string_bytes c.push_table.new.text)
    c.new.ensures c.loop-number.invariant c.in_ok-push_gap.ensures c.in_ok-push_table.ensures
