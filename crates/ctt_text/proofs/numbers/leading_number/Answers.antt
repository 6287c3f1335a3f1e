use Rattle.std.proofs.Common.{◌≡◌, ◌<◌, ◌+◌, true, take, arith, sym, ◌∙◌, ap, Some}
use Rattle.std.proofs.lemmas.Bool.{both_ways}
use Rattle.std.proofs.lemmas.Grind.{common_steps}
use Rattle.std.specs.List.{list_all}
use Rattle.ctt_text.specs.Numbers.{is_digit, value}
use Rattle.ctt_text.proofs.NumberLemmas.{is_front_number, too_large_front, no_front_number, digits_end}
use Rattle.ctt_text.proofs.numbers.leading_number.Goals as goal
use Rattle.ctt_text.proofs.numbers.leading_number.Goals.{then-loop-len-test+else-is_ascii_digit, else-loop-len-test, else-len-gt0-via-then-len-gt0+else-is_word_end, else-len-gt0-via-else-len-gt0}

pub returns-then-value-gt-GREATEST-clause-none : goal.returns-then-value-gt-GREATEST-clause-none
returns-then-value-gt-GREATEST-clause-none c =
    let bs = c.args.bytes.now in
    let k = c.loop-len.len in
    let digits : list_all is_digit (take (k + 1) bs) ≡ true = grind (arith, common_steps) in
    let large : 999999999 < value (take (k + 1) bs) = grind (arith, common_steps) in
    too_large_front bs (k + 1) digits (omega (arith, c.loop-len-test.true)) large

pub returns-then-is_word_end-clause-number : goal.returns-then-is_word_end-clause-number
returns-then-is_word_end-clause-number c =
    let bs = c.args.bytes.now in
    let inv = c.loop-len.invariant in
    is_front_number bs c.loop-len.len inv.digits inv.within (c.is_word_end.ensures.0 c.if-is_word_end.true) (omega (arith, c.if-len-gt0.true)) (rw (← inv.so_far) inv.small) ∙ ap Some (sym inv.so_far)

pub returns-then-is_word_end-clause-end : goal.returns-then-is_word_end-clause-end
returns-then-is_word_end-clause-end c =
    let inv = c.loop-len.invariant in
    sym (digits_end c.args.bytes.now c.loop-len.len inv.digits inv.within (c.is_word_end.ensures.0 c.if-is_word_end.true))

pub returns-else-len-gt0-clause-none : goal.returns-else-len-gt0-clause-none
returns-else-len-gt0-clause-none c = no_front_number c.args.bytes.now c.loop-len.len c.loop-len.invariant.digits c.loop-len.invariant.within
    (λ lt. elim c.loop-len-test.branch [
      | then-loop-len-test+else-is_ascii_digit w ↦ sym w.is_ascii_digit.ensures.value ∙ w.if-is_ascii_digit.false
      | else-loop-len-test w ↦ absurd (omega (arith, lt, w.loop-len-test.false))
    ])
    (λ stop. elim c.else-len-gt0.branch [
      | else-len-gt0-via-then-len-gt0+else-is_word_end w ↦ absurd (both_ways w.is_word_end.result w.if-is_word_end.false (w.is_word_end.ensures.1 stop))
      | else-len-gt0-via-else-len-gt0 w ↦ omega (arith, w.if-len-gt0.false)
    ])
