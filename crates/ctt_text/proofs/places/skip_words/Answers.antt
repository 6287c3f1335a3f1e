use Rattle.std.proofs.Common.{◌≡◌, ◌∙◌, ◌∷◌, [], arith, rules}
use Rattle.ctt_text.proofs.TextPlaceLemmas.{none_left, one_left}
use Rattle.ctt_text.proofs.places.skip_words.Goals as goal

pub returns-in_default : goal.returns-in_default
returns-in_default c =
    let none : c.loop.words ≡ [] = search rules in
    let left : c.next.new.self ≡ [] = search rules in
    left ∙ none_left c.args.words.now c.loop.words c.loop.counter c.args.count c.loop.invariant.0 none c.loop.invariant.1

pub loop-preserved : goal.loop-preserved
loop-preserved c =
    let step : c.loop.words ≡ c.in-Some.field-0.now ∷ c.next.new.self = search rules in
    (one_left c.args.words.now c.loop.words c.next.new.self c.loop.counter c.in-Some.field-0.now c.loop.invariant.0 step, omega (arith, c.loop-test.true))
