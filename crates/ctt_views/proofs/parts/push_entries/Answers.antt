use Rattle.std.proofs.Common.{ap, string_bytes}
use Rattle.ctt_views.specs.Parts.{entry, grid_of}
use Rattle.ctt_views.proofs.TextLemmas.{goes_on}
use Rattle.ctt_views.proofs.parts.push_entries.Goals as goal

pub loop-number-preserved : goal.loop-number-preserved
loop-number-preserved c =
    let i = c.args.instance.now in
    goes_on (λ n. entry i (grid_of c.args.kind.now n)) c.loop-number.number (string_bytes c.args.page.now) (string_bytes c.loop-number.page) (string_bytes c.push_entry.new.page) (entry i c.grid_of-grid.result)
    c.loop-number.invariant c.in_ok-push_entry.ensures (ap (entry i) c.grid_of-grid.ensures.grid)
