use Rattle.ctt_web.proofs.PageLemmas.{said_here}
use Rattle.ctt_web.proofs.border.answer_page.Goals as goal

pub returns-in-Err-clause-refuses : goal.returns-in-Err-clause-refuses
returns-in-Err-clause-refuses c refused = said_here c.args.bytes.now c.args.asked.now c.in-Err.fault _ _ _ c.in-Err.ensures.cause c.in-Err.ensures.met c.refuse.ensures
