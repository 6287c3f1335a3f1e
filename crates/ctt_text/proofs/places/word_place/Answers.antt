use Rattle.std.proofs.Common.{◌≡◌, ◌∙◌, ◌-◌, Some, None, ap, drop, position, sym, take}
use Rattle.std.proofs.lemmas.List.{take_rest}
use Rattle.ctt_text.specs.TextPlaces.{through_words}
use Rattle.ctt_text.specs.Words.{words}
use Rattle.ctt_text.proofs.TextPlaceLemmas.{word_begins, word_misses}
use Rattle.ctt_text.proofs.WordLemmas.{stands}
use Rattle.ctt_text.proofs.places.word_place.Goals as goal

pub returns-in-Some-clause-place : goal.returns-in-Some-clause-place
returns-in-Some-clause-place c =
    let text = c.args.text.now in
    let before = c.words_end-before.result in
    let found : position stands (drop before text) ≡ Some c.in-Some.start = rw take_rest at (sym c.in-Some.ensures) in
    let rest : words (drop before text) ≡ drop (c.args.number - 1) (words text) = rw c.saturating_sub.ensures at c.words_end-before.ensures.rest in
    let front : take before text ≡ through_words (c.args.number - 1) text = rw c.saturating_sub.ensures at c.words_end-before.ensures.front in
    word_begins text before c.args.number c.in-Some.start c.words_end-before.ensures.within rest front found

pub returns-in-None-clause-place : goal.returns-in-None-clause-place
returns-in-None-clause-place c =
    let text = c.args.text.now in
    let before = c.words_end-before.result in
    let none : position stands (drop before text) ≡ None = rw take_rest at (sym c.in-None.ensures) in
    let rest : words (drop before text) ≡ drop (c.args.number - 1) (words text) = rw c.saturating_sub.ensures at c.words_end-before.ensures.rest in
    let front : take before text ≡ through_words (c.args.number - 1) text = rw c.saturating_sub.ensures at c.words_end-before.ensures.front in
    word_misses text before c.args.number rest front none
