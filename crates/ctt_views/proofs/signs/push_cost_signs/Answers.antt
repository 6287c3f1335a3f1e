use Rattle.std.proofs.Common.{append-nil, string_bytes, sym}
use Rattle.ctt_views.specs.Signs.{cost_signs}
use Rattle.ctt_views.proofs.signs.push_cost_signs.Goals as goal

pub returns : goal.returns
unfolding cost_signs
returns c = rw c.if-view.false (rw (c.unseated.ensures, c.alone_points.ensures) at c.write.ensures.bytes)

pub returns-then-view : goal.returns-then-view
unfolding cost_signs
returns-then-view c = rw c.if-view.true (sym (append-nil (string_bytes c.args.page.now)))
