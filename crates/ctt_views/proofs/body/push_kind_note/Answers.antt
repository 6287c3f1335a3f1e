use Rattle.ctt_views.specs.Bodies.{kind_note}
use Rattle.ctt_views.proofs.body.push_kind_note.Goals as goal

pub returns : goal.returns
unfolding kind_note
returns c = rw c.id_of-id.ensures at c.write.ensures.bytes
