use Rattle.ctt_views.specs.Headings.{heading}
use Rattle.ctt_views.proofs.heading.push_heading.Goals as goal

pub returns : goal.returns
unfolding heading
returns c = rw (c.name_of.ensures, c.word_of-word.ensures) at c.write.ensures.bytes
