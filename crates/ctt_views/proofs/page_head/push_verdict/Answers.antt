use Rattle.ctt_views.specs.Heads.{verdict}
use Rattle.ctt_views.proofs.page_head.push_verdict.Goals as goal

pub returns : goal.returns
unfolding verdict
returns c = rw (c.lawful_text-lawful.ensures, c.complete_text-complete.ensures, c.total-points.ensures) at c.write.ensures.bytes
