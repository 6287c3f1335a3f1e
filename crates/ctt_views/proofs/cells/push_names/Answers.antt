use Rattle.ctt_views.specs.Cells.{names_text}
use Rattle.ctt_views.proofs.cells.push_names.Goals as goal

pub returns : goal.returns
unfolding names_text
returns c = rw (c.get-colour.ensures, c.link-course.ensures, c.link-room.ensures) at c.write.ensures.bytes
