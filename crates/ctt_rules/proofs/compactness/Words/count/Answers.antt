use Rattle.std.proofs.Common.{◌≡◌, ◌<◌, ◌≤◌, ◌^◌, ◌&&◌, ◌∙◌, ℕ, ap, arith, get_or}
use Rattle.std.specs.Prelude.{bit_and, count_ones}
use Rattle.std.proofs.lemmas.List.Sums.{sum_by_more}
use Rattle.ctt_problem.specs.Lists.{count_below}
use Rattle.ctt_rules.specs.Windows.{has_bit, word_of}
use Rattle.ctt_rules.proofs.BitLemmas.{common_counted, few_ones}
use Rattle.ctt_rules.proofs.compactness.Words.count.Goals as goal

pub loop-course-preserved : goal.loop-course-preserved
loop-course-preserved c =
    let w = c.args.self.now in
    let bits = c.args.bits in
    let m = c.course-item.result in
    let small : bits < 2 ^ 64 = omega arith in
    let f : ℕ → ℕ = λ k. count_below (λ place. has_bit (word_of w k) place && has_bit bits place) 64 in
    let here : c.from-count.result ≡ f (get_or c.args.courses.now c.loop-course.course-index m) =
    c.from-count.ensures ∙ ap (λ a. count_ones (bit_and a bits)) c.of.ensures ∙ common_counted (word_of w m) bits small ∙ ap f c.course-item.is in
    let few : c.from-count.result ≤ 64 = omega (arith, c.from-count.ensures, few_ones c.of.result bits small) in
    record {
      so_far = omega (arith, c.loop-course.invariant.so_far, here, sum_by_more f c.args.courses.now c.loop-course.course-index m c.loop-course-test.true);
      few = omega (arith, c.loop-course.invariant.few, few);
    }
