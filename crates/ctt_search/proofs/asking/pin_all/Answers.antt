use Rattle.std.proofs.Common.{◌∙◌, arith}
use Rattle.ctt_search.proofs.PinLemmas.{not_past, each_before, row_pinned}
use Rattle.ctt_search.proofs.asking.pin_all.Goals as goal

pub mark_all-requires-clause-within : goal.mark_all-requires-clause-within
mark_all-requires-clause-within c = λ n le. not_past c.mark_below.new.self c.new-marks.result c.from-courses.result c.mark_below.ensures c.new-marks.ensures n (omega (arith, le, c.loop-slot.invariant.size.1))

pub loop-slot-preserved : goal.loop-slot-preserved
loop-slot-preserved c = record {
  size = (c.mark_all.ensures.size.0 ∙ c.loop-slot.invariant.size.0, c.mark_all.ensures.size.1 ∙ c.loop-slot.invariant.size.1);
  all = row_pinned c.loop-slot.pins c.mark_all.new.self c.mark_below.new.self c.loop-slot.slot c.from-courses.result c.mark_all.ensures
      (each_before c.mark_below.new.self c.new-marks.result c.from-courses.result c.mark_below.ensures c.new-marks.ensures) c.loop-slot.invariant.all;
}

pub returns-clause-size : goal.returns-clause-size
returns-clause-size c = (c.loop-slot.invariant.size.0 ∙ c.from-slots.ensures ∙ c.slots.ensures.exact, c.loop-slot.invariant.size.1 ∙ c.from-courses.ensures ∙ c.courses.ensures.exact)

pub returns-clause-all : goal.returns-clause-all
returns-clause-all c = λ k s lk ls. c.loop-slot.invariant.all s (omega (arith, ls, c.loop-slot-test.false, c.from-slots.ensures, c.slots.ensures.exact)) k (omega (arith, lk, c.from-courses.ensures, c.courses.ensures.exact))
