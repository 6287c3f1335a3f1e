use Rattle.std.proofs.Common.{rules, refl, ◌<◌, ◌≤◌, ◌^◌, ◌*◌, get_or, ◌∙◌, arith, bit_and}
use Rattle.std.specs.Int.Count.{ones}
use Rattle.std.proofs.lemmas.Nat.{and_le_l, ones-le}
use Rattle.ctt_problem.proofs.MarkLemmas.{common_more, count_marked_above, none_common, in_both}
use Rattle.ctt_problem.proofs.marks.Marks.count_common.Goals as goal

pub loop-place-preserved : goal.loop-place-preserved
loop-place-preserved c =
    let a = get_or c.self.inside.words c.loop-place.place 0 in
    let b = get_or c.other.inside.words c.loop-place.place 0 in
    let word : get_or c.self.inside.words c.loop-place.place 0 < 2 ^ 64 = search rules in
    let fits : bit_and a b < 2 ^ 64 = omega (arith, and_le_l a b, word) in
    let few : ones (bit_and a b) ≤ 64 = ones-le 64 (bit_and a b) fits in
    record {
      few = omega (arith, few, c.loop-place.invariant.few);
      so_far = common_more c.self.inside.words c.other.inside.words c.loop-place.place c.loop-place.count 64 refl fits c.loop-place.invariant.so_far;
    }

pub returns : goal.returns
returns c =
    rw (← c.self.view_is) (rw (← c.other.view_is) (c.loop-place.invariant.so_far ∙ count_marked_above (in_both c.self.inside.words c.other.inside.words) (c.loop-place.place * 64) (omega arith) (none_common c.self.inside.words c.other.inside.words c.self.invariant)))
