use Rattle.ctt_views.specs.GridTexts.{line_start}
use Rattle.ctt_views.proofs.grids.push_line_start.Goals as goal

pub returns : goal.returns
unfolding line_start
returns c = rw c.from.ensures at c.write.ensures.bytes
