use Rattle.std.proofs.Common.{rules, ◌<◌, ◌^◌, ◌+◌, ◌*◌, get_or, bit_and, arith, w64}
use Rattle.std.specs.Int.{trailing_zeros}
use Rattle.std.proofs.lemmas.Nat.{and_le_l}
use Rattle.ctt_problem.proofs.MarkLemmas.{least_in_word, none_in_word, in_both, in_both_words, least_below, least_within, none_below}
use Rattle.ctt_problem.proofs.marks.Marks.first_common_below.Goals as goal

pub returns-then-common-ne0-clause-least : goal.returns-then-common-ne0-clause-least
returns-then-common-ne0-clause-least c =
    let a = get_or c.self.inside.words c.loop-place.place 0 in
    let b = get_or c.other.inside.words c.loop-place.place 0 in
    let word : get_or c.self.inside.words c.loop-place.place 0 < 2 ^ 64 = search rules in
    let fits : bit_and a b < 2 ^ 64 = omega (arith, and_le_l a b, word) in
    rw (← c.self.view_is) (rw (← c.other.view_is) (rw c.then_some.ensures (least_below (in_both c.self.inside.words c.other.inside.words) c.args.count (c.loop-place.place * 64 + trailing_zeros w64 (bit_and a b))
    (least_in_word (in_both c.self.inside.words c.other.inside.words) c.loop-place.place (bit_and a b) fits c.if-common-ne0.true (in_both_words c.self.inside.words c.other.inside.words c.loop-place.place) c.loop-place.invariant))))

pub returns-then-common-ne0-clause-within : goal.returns-then-common-ne0-clause-within
returns-then-common-ne0-clause-within c = rw c.then_some.ensures (least_within c.args.count _)

pub loop-place-preserved : goal.loop-place-preserved
loop-place-preserved c = none_in_word (in_both c.self.inside.words c.other.inside.words) c.loop-place.place _ c.if-common-ne0.false (in_both_words c.self.inside.words c.other.inside.words c.loop-place.place) c.loop-place.invariant

pub returns-clause-least : goal.returns-clause-least
returns-clause-least c = λ n. rw (← c.self.view_is) (rw (← c.other.view_is) (none_below (in_both c.self.inside.words c.other.inside.words) c.args.count c.loop-place.place (omega arith) c.loop-place.invariant n))
