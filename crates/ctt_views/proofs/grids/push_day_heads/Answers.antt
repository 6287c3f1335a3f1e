use Rattle.std.proofs.Common.{refl, string_bytes}
use Rattle.ctt_views.specs.GridTexts.{day_head}
use Rattle.ctt_views.proofs.TextLemmas.{goes_on}
use Rattle.ctt_views.proofs.grids.push_day_heads.Goals as goal

pub loop-day-preserved : goal.loop-day-preserved
loop-day-preserved c =
    goes_on (day_head c.args.names.now) c.loop-day.day (string_bytes c.args.page.now) (string_bytes c.loop-day.page) (string_bytes c.push_day_head.new.page) (day_head c.args.names.now c.loop-day.day)
    c.loop-day.invariant c.in_ok-push_day_head.ensures refl
