use Rattle.std.proofs.Common.{ap, string_bytes}
use Rattle.ctt_problem.specs.Problem.{slot_of}
use Rattle.ctt_views.specs.Cells.{cell}
use Rattle.ctt_views.proofs.TextLemmas.{goes_on}
use Rattle.ctt_views.proofs.grids.push_cells.Goals as goal

pub loop-day-preserved : goal.loop-day-preserved
loop-day-preserved c =
    let i = c.args.instance.now in
    let w = c.args.week.now in
    let v = c.args.view.now in
    let g = c.args.grid.now in
    goes_on (λ d. cell i w v g (slot_of i d c.args.period)) c.loop-day.day (string_bytes c.args.page.now) (string_bytes c.loop-day.page) (string_bytes c.push_cell.new.page) (cell i w v g c.slot_of-slot.result)
    c.loop-day.invariant c.in_ok-push_cell.ensures (ap (cell i w v g) c.slot_of-slot.ensures.exact)
