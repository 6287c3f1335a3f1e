use Rattle.std.proofs.Common.{rules, refl}
use Rattle.ctt_text.proofs.PointLemmas.{padded_cut}
use Rattle.ctt_text.proofs.shown.cut.Goals as goal

pub returns : goal.returns
returns c = rw (c.laid_out.ensures, padded_cut 40 c.args.text.now) at c.format.ensures.ok
