use Rattle.std.proofs.Common.{ap, string_bytes}
use Rattle.ctt_views.specs.GridTexts.{grid_text}
use Rattle.ctt_views.specs.Parts.{grid_of}
use Rattle.ctt_views.proofs.TextLemmas.{goes_on}
use Rattle.ctt_views.proofs.parts.push_part_grids.Goals as goal

pub loop-number-preserved : goal.loop-number-preserved
loop-number-preserved c =
    let i = c.args.instance.now in
    let w = c.args.week.now in
    let v = c.args.view.now in
    let names = c.args.names.now in
    goes_on (λ n. grid_text i w v names (grid_of c.args.kind.now n)) c.loop-number.number (string_bytes c.args.page.now) (string_bytes c.loop-number.page) (string_bytes c.push_grid.new.page) (grid_text i w v names c.grid_of-grid.result)
    c.loop-number.invariant c.in_ok-push_grid.ensures (ap (grid_text i w v names) c.grid_of-grid.ensures.grid)
