use Rattle.std.proofs.Common.{rules, ◌<◌, ◌^◌, ◌+◌, ◌*◌, ◌/◌, ◌%◌, ◌-◌, get_or, bit_and, arith, w64}
use Rattle.std.specs.Int.{trailing_zeros}
use Rattle.std.proofs.lemmas.Nat.{and_le_l}
use Rattle.ctt_problem.proofs.MarkLemmas.{least_in_word, none_in_word, marked_from, from_word, later_word, none_before, least_below, least_within, none_below, none_between}
use Rattle.ctt_problem.proofs.marks.Marks.next_between.Goals as goal

pub returns-then-first-end-clause-least : goal.returns-then-first-end-clause-least
returns-then-first-end-clause-least c = λ n. rw (← c.self.view_is) (none_between c.self.inside.words c.args.first c.args.end n c.if-first-end.true)

pub returns-then-here-ne0-clause-least : goal.returns-then-here-ne0-clause-least
returns-then-here-ne0-clause-least c =
    let a = get_or c.self.inside.words (c.args.first / 64) 0 in
    let mask = (2 ^ 64 - 1) * 2 ^ (c.args.first % 64) % 2 ^ 64 in
    let word : get_or c.self.inside.words (c.args.first / 64) 0 < 2 ^ 64 = search rules in
    let fits : bit_and a mask < 2 ^ 64 = omega (arith, and_le_l a mask, word) in
    rw (← c.self.view_is) (rw c.then_some.ensures (least_below (marked_from c.args.first c.self.inside.words) c.args.end (c.args.first / 64 * 64 + trailing_zeros w64 (bit_and a mask))
    (least_in_word (marked_from c.args.first c.self.inside.words) (c.args.first / 64) (bit_and a mask) fits c.if-here-ne0.true (from_word c.self.inside.words c.args.first) (none_before c.self.inside.words c.args.first))))

pub returns-then-here-ne0-clause-within : goal.returns-then-here-ne0-clause-within
returns-then-here-ne0-clause-within c = rw c.then_some.ensures (least_within c.args.end _)

pub loop-place-init : goal.loop-place-init
loop-place-init c = none_in_word (marked_from c.args.first c.self.inside.words) (c.args.first / 64) _ c.if-here-ne0.false (from_word c.self.inside.words c.args.first) (none_before c.self.inside.words c.args.first)

pub returns-then-word-ne0-clause-least : goal.returns-then-word-ne0-clause-least
returns-then-word-ne0-clause-least c =
    let word : get_or c.self.inside.words c.loop-place.place 0 < 2 ^ 64 = search rules in
    let later : c.args.first / 64 < c.loop-place.place = omega arith in
    rw (← c.self.view_is) (rw c.then_some-then-word-ne0.ensures (least_below (marked_from c.args.first c.self.inside.words) c.args.end (c.loop-place.place * 64 + trailing_zeros w64 (get_or c.self.inside.words c.loop-place.place 0))
    (least_in_word (marked_from c.args.first c.self.inside.words) c.loop-place.place (get_or c.self.inside.words c.loop-place.place 0) word c.if-word-ne0.true (λ i lt. later_word c.self.inside.words c.args.first c.loop-place.place i later lt) c.loop-place.invariant)))

pub returns-then-word-ne0-clause-within : goal.returns-then-word-ne0-clause-within
returns-then-word-ne0-clause-within c = rw c.then_some-then-word-ne0.ensures (least_within c.args.end _)

pub loop-place-preserved : goal.loop-place-preserved
loop-place-preserved c =
    let later : c.args.first / 64 < c.loop-place.place = omega arith in
    none_in_word (marked_from c.args.first c.self.inside.words) c.loop-place.place _ c.if-word-ne0.false (λ i lt. later_word c.self.inside.words c.args.first c.loop-place.place i later lt) c.loop-place.invariant

pub returns-clause-least : goal.returns-clause-least
returns-clause-least c = λ n. rw (← c.self.view_is) (none_below (marked_from c.args.first c.self.inside.words) c.args.end c.loop-place.place (omega arith) c.loop-place.invariant n)
