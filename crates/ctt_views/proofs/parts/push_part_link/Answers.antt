use Rattle.ctt_views.specs.Parts.{part_link}
use Rattle.ctt_views.proofs.parts.push_part_link.Goals as goal

pub returns : goal.returns
unfolding part_link
returns c = rw (c.id_of-id.ensures, c.title_of-title.ensures) at c.write.ensures.bytes
