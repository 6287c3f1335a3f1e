use Rattle.std.proofs.Common.{◌≡◌, ◌∙◌, ◌+◌, ◌-◌, ◌<◌, ◌≤◌, ap, arith, drop, sym}
use Rattle.ctt_text.specs.Entries.{curriculum_in}
use Rattle.ctt_text.specs.Sections.{stated}
use Rattle.ctt_text.proofs.LengthLemmas.{no_place_in_curriculum, place_after_curriculum, place_in_curriculum}
use Rattle.ctt_text.proofs.entries.curriculum_in.Goals as goal

pub returns-then-left-len-clause-found : goal.returns-then-left-len-clause-found
returns-then-left-len-clause-found c =
    let ws = c.loop-number.words in
    let left = c.loop-number.left in
    let less : c.loop-number.number < c.args.count = omega (arith, c.loop-number-test.true) in
    let within : left < 2 + stated 2 ws = omega (arith, c.if-left-len.true, c.skip_curriculum-len.ensures.len) in
    sym (place_in_curriculum ws c.loop-number.number c.args.count left less within) ∙ c.loop-number.invariant.0

pub loop-number-preserved : goal.loop-number-preserved
loop-number-preserved c =
    let ws = c.loop-number.words in
    let n = c.loop-number.number in
    let count = c.args.count in
    let left = c.loop-number.left in
    let made = c.skip_curriculum-len.ensures in
    let less : n < count = omega (arith, c.loop-number-test.true) in
    let after : 2 + stated 2 ws ≤ left = omega (arith, c.if-left-len.false, made.len) in (
      ap (λ m. curriculum_in (count - (n + 1)) (n + 1) (left - m) c.skip_curriculum-len.new.words) made.len
          ∙ ap (curriculum_in (count - (n + 1)) (n + 1) (left - (2 + stated 2 ws))) made.rest
          ∙ sym (place_after_curriculum ws n count left less after)
          ∙ c.loop-number.invariant.0,
      omega (arith, less),
    )

pub returns-clause-found : goal.returns-clause-found
returns-clause-found c =
    let left = c.loop-number.left in
    let same : c.loop-number.number ≡ c.args.count = omega (arith, c.loop-number.invariant.1, c.loop-number-test.false) in
    ap (λ n. (n, left)) (sym same)
    ∙ sym (no_place_in_curriculum c.loop-number.words c.loop-number.number c.args.count left same)
    ∙ c.loop-number.invariant.0
