use Rattle.ctt_text.proofs.TextPlaceLemmas.{EndsWords}
use Rattle.ctt_text.proofs.places.words_end.Given as goal

abbrev pub invariant-loop : goal.invariant-loop
invariant-loop l = EndsWords l.text l.end l.counter
