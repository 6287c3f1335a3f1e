use Rattle.ctt_views.specs.Sentences.{capacity_text}
use Rattle.ctt_views.proofs.sentences.push_seats.Goals as goal

pub returns : goal.returns
unfolding capacity_text
returns c = rw (c.from.ensures, c.from-2.ensures) at c.write.ensures.bytes
