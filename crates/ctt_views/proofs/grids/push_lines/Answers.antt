use Rattle.std.proofs.Common.{refl, string_bytes}
use Rattle.ctt_views.specs.GridTexts.{line}
use Rattle.ctt_views.proofs.TextLemmas.{goes_on}
use Rattle.ctt_views.proofs.grids.push_lines.Goals as goal

pub loop-period-preserved : goal.loop-period-preserved
loop-period-preserved c =
    let i = c.args.instance.now in
    let w = c.args.week.now in
    let v = c.args.view.now in
    let g = c.args.grid.now in
    goes_on (line i w v g) c.loop-period.period (string_bytes c.args.page.now) (string_bytes c.loop-period.page) (string_bytes c.push_line.new.page) (line i w v g c.loop-period.period)
    c.loop-period.invariant c.in_ok-push_line.ensures refl
