use Rattle.std.proofs.Common.{◌<◌, ◌^◌, ◌+◌, inl, arith, length}
use Rattle.ctt_text.specs.Words.{words}
use Rattle.ctt_text.proofs.WordLemmas.{words_fit}
use Rattle.ctt_log.proofs.blocks.count_words.Goals as goal

pub count-requires-clause-fits : goal.count-requires-clause-fits
count-requires-clause-fits c =
    let text = c.args.text.now in
    let long : length text < 2 ^ 64 = omega arith in
    let fits = words_fit text long in
    let less : 0 + length (words text) < 2 ^ 64 = omega (arith, fits) in
    rw c.new.ensures (inl less)
