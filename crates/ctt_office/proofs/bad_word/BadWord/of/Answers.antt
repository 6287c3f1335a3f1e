use Rattle.std.proofs.Common.{◌≡◌, ◌∙◌, ◌+◌, ◌-◌, ◌≤◌, [], arith, ap, drop, rules, suc, sym}
use Rattle.ctt_text.specs.Words.{words}
use Rattle.ctt_office.proofs.BadWordLemmas.{bad_word_is, none_there, rest_there, word_there}
use Rattle.ctt_office.proofs.bad_word.BadWord.of.Goals as goal

pub loop-preserved : goal.loop-preserved
loop-preserved c =
    let ws = words c.args.text.now in
    let old = c.loop.reader in
    let next = c.in-Some.ensures.next in
    let at : old.next ≡ c.loop.counter = c.loop.invariant.1 in
    let first = c.loop.invariant.2 in
    let more : c.word.new.self.next ≡ c.loop.counter + 1 = next.next ∙ ap (λ n. n + 1) at in
    let place : suc (old.next - 1) ≡ c.word.new.self.next - 1 = omega (arith, at, first, more) in
    let rest : drop (suc (old.next - 1)) ws ≡ c.word.new.self.words = rest_there ws (old.next - 1) _ c.word.new.self.words (sym c.loop.invariant.0 ∙ next.words) in
    (sym rest ∙ ap (λ k. drop k ws) place, more, omega arith, search rules)

pub returns-in-Some-word : goal.returns-in-Some-word
returns-in-Some-word c =
    let ws = words c.args.text.now in
    let place : c.loop.reader.next - 1 ≡ c.args.at - 1 = search rules in
    let here = ap (λ k. drop k ws) (sym place) ∙ sym c.loop.invariant.0 ∙ c.in-Some-word.ensures.next.words in
    bad_word_is c.args.at ws c.in-Some-word.word.now (word_there ws (c.args.at - 1) c.in-Some-word.word.now c.word-2.new.self.words here)

pub returns-in-None : goal.returns-in-None
returns-in-None c =
    let ws = words c.args.text.now in
    let place : c.loop.reader.next - 1 ≤ c.args.at - 1 = search rules in
    let none : drop (c.loop.reader.next - 1) ws ≡ [] = sym c.loop.invariant.0 ∙ c.in-None.ensures.next.0 in
    bad_word_is c.args.at ws [] (none_there ws (c.loop.reader.next - 1) (c.args.at - 1) none place)
