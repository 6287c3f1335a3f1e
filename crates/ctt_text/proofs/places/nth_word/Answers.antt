use Rattle.std.proofs.Common.{◌≡◌, ◌∙◌, ◌∷◌, ◌-◌, [], ap, drop, rules, sym}
use Rattle.ctt_text.specs.Words.{words}
use Rattle.ctt_text.proofs.TextPlaceLemmas.{none_there, word_there}
use Rattle.ctt_text.proofs.places.nth_word.Goals as goal

pub returns-in-Some : goal.returns-in-Some
returns-in-Some c =
    let ws = words c.args.text.now in
    let step : c.skip_words.new.words ≡ c.in-Some.word.now ∷ c.next.new.self = search rules in
    let left : drop (c.args.number - 1) ws ≡ c.skip_words.new.words = search rules in
    word_there ws (c.args.number - 1) c.in-Some.word.now c.next.new.self (left ∙ step)

pub returns-in-None : goal.returns-in-None
returns-in-None c =
    let ws = words c.args.text.now in
    let none : c.skip_words.new.words ≡ [] = search rules in
    let left : drop (c.args.number - 1) ws ≡ c.skip_words.new.words = search rules in
    none_there ws (c.args.number - 1) (left ∙ none)
