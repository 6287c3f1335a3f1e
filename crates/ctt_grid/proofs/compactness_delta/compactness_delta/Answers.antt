use Rattle.std.proofs.Common.{ℕ, ap, arith}
use Rattle.std.proofs.lemmas.List.Sums.{sum_by_more}
use Rattle.ctt_grid.specs.CostDelta.{stands_alone, alone_beside}
use Rattle.ctt_grid.specs.Seen.{seen_curriculum}
use Rattle.ctt_grid.proofs.compactness_delta.compactness_delta.Goals as goal

pub loop-curriculum-preserved : goal.loop-curriculum-preserved
loop-curriculum-preserved c =
    let i = c.args.instance.now in
    let f : ℕ → ℕ = λ q. stands_alone i (seen_curriculum i c.args.counts.now q) c.args.slot in
    let g : ℕ → ℕ = λ q. alone_beside i (seen_curriculum i c.args.counts.now q) c.args.slot in
    let k = c.loop-curriculum.curriculum-index in
    let q = c.curriculum-item.result in
    let was = c.loop-curriculum.invariant in
    record {
      alone = omega (arith, was.alone, sum_by_more f c.args.curricula.now k q c.loop-curriculum-test.true, ap f c.curriculum-item.is, c.curriculum_delta-delta.ensures.alone);
      lone_neighbours = omega (arith, was.lone_neighbours, sum_by_more g c.args.curricula.now k q c.loop-curriculum-test.true, ap g c.curriculum-item.is, c.curriculum_delta-delta.ensures.lone_neighbours);
      few = omega (arith, was.few, c.curriculum_delta-delta.ensures.few);
      bound = omega (arith, was.bound, c.curriculum_delta-delta.ensures.bound);
    }
