use Rattle.ctt_text.proofs.WordLemmas.{cut_after}
use Rattle.ctt_text.proofs.reader.Reader.number.Goals as goal

pub range_from-self-inside-requires : goal.range_from-self-inside-requires
range_from-self-inside-requires c = λ _. rw c.as_bytes.ensures.value at (cut_after c.as_bytes.result.now c.in_ok-number.ensures.found.start c.in_ok-number.end c.in_ok-number.ensures.found.word)
