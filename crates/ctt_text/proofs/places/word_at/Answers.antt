use Rattle.std.proofs.Common.{◌≡◌, ◌<◌, [], arith, drop}
use Rattle.std.proofs.lemmas.List.{take_rest}
use Rattle.ctt_text.specs.Words.{IsFirstWord, words}
use Rattle.ctt_text.proofs.TextPlaceLemmas.{too_few, word_is_at}
use Rattle.ctt_text.proofs.places.word_at.Goals as goal

pub returns-in_err-start-clause-none : goal.returns-in_err-start-clause-none
returns-in_err-start-clause-none c =
    let text = c.args.text.now in
    let none : words (drop c.words_end-before.result text) ≡ [] = rw take_rest at c.in_err-start.ensures.none in
    let counted : 0 < c.args.number = omega (arith, c.if-number-eq0.false) in
    rw c.from_residual.ensures (too_few text c.words_end-before.result c.args.number counted c.words_end-before.ensures.rest none)

pub returns-clause-found : goal.returns-clause-found
returns-clause-found c =
    let text = c.args.text.now in
    let before = c.words_end-before.result in
    let counted : 0 < c.args.number = omega (arith, c.if-number-eq0.false) in
    let first : IsFirstWord (drop before text) c.in_ok-start.start c.in_ok-start.end = rw take_rest at c.in_ok-start.ensures.found in
    word_is_at text before c.args.number c.in_ok-start.start c.in_ok-start.end counted c.words_end-before.ensures.within c.words_end-before.ensures.rest first
