use Rattle.ctt_views.specs.Parts.{entry}
use Rattle.ctt_views.proofs.parts.push_entry.Goals as goal

pub returns : goal.returns
unfolding entry
returns c = rw (c.name_of.ensures, c.word_of-word.ensures) at c.write.ensures.bytes
