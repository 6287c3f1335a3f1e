use Rattle.std.proofs.Common.{◌≡◌, ◌∙◌, ◌<◌, [], inl, inr, arith, drop}
use Rattle.std.proofs.lemmas.List.{take_rest}
use Rattle.ctt_text.specs.Words.{IsFirstWord, words}
use Rattle.ctt_text.proofs.TextPlaceLemmas.{none_after, one_more_ends, through_is}
use Rattle.ctt_text.proofs.places.words_end.Goals as goal

pub returns-in_default-clause-rest : goal.returns-in_default-clause-rest
returns-in_default-clause-rest c =
    let text = c.args.text.now in
    let none : words (drop c.loop.end text) ≡ [] = rw take_rest at c.in_default.ensures.none in
    let less : c.loop.counter < c.args.count = omega (arith, c.loop-test.true) in
    none_after text c.loop.end c.loop.counter c.args.count c.loop.invariant (omega (arith, less)) none

pub returns-in_default-clause-front : goal.returns-in_default-clause-front
returns-in_default-clause-front c =
    let text = c.args.text.now in
    let none : words (drop c.loop.end text) ≡ [] = rw take_rest at c.in_default.ensures.none in
    let less : c.loop.counter < c.args.count = omega (arith, c.loop-test.true) in
    through_is text c.loop.end c.loop.counter c.args.count c.loop.invariant (inr (less, none))

pub loop-preserved : goal.loop-preserved
loop-preserved c =
    let text = c.args.text.now in
    let first : IsFirstWord (drop c.loop.end text) c.in-Some.field-0-0 c.in-Some.len = rw take_rest at c.in-Some.ensures.found in
    one_more_ends text c.loop.end c.loop.counter c.in-Some.field-0-0 c.in-Some.len c.loop.invariant first

pub returns-clause-front : goal.returns-clause-front
returns-clause-front c =
    let same : c.loop.counter ≡ c.args.count = omega (arith, c.loop-test.false, c.loop.auto.counter-end) in
    through_is c.args.text.now c.loop.end c.loop.counter c.args.count c.loop.invariant (inl same)
