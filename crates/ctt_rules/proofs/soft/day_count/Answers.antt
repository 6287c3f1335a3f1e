use Rattle.std.proofs.Common.{◌≡◌, ◌+◌, ◌<◌, ◌∙◌, ℕ, cond, not, refl, sym, ap, arith}
use Rattle.std.proofs.lemmas.List.{take_all}
use Rattle.ctt_problem.specs.Marks.{is_marked}
use Rattle.ctt_problem.specs.Problem.{day_of}
use Rattle.ctt_problem.specs.Timetable.{Fits}
use Rattle.ctt_problem.specs.declared.placed.Placed.{Placed}
use Rattle.ctt_problem.proofs.TimetableLemmas.{Each-at}
use Rattle.ctt_rules.specs.Penalty.{days_of}
use Rattle.ctt_rules.proofs.SlotLemmas.{day_fits}
use Rattle.ctt_rules.proofs.SumLemmas.{sum_below_zero}
use Rattle.ctt_rules.proofs.DistinctLemmas.{marked_more, distinct_more}
use Rattle.ctt_rules.proofs.soft.day_count.Goals as goal
use Rattle.ctt_rules.proofs.soft.day_count.Goals.{then-mark, else-mark}

pub loop-lecture-init : goal.loop-lecture-init
loop-lecture-init c = record {
  so_far = sym (sum_below_zero (λ _. 0) c.args.instance.now.days (λ _ _. refl));
  few = omega arith;
  marked = c.new-seen.ensures;
}

pub loop-lecture-preserved : goal.loop-lecture-preserved
loop-lecture-preserved c =
    let n = c.day_of.result in
    let number : Placed → ℕ = (λ (l : Placed). day_of c.args.instance.now l.slot) in
    let inv = c.loop-lecture.invariant in
    let x = c.lecture-item.result in
    let i = c.loop-lecture.lecture-index in
    let is : n ≡ number x = c.day_of.ensures.exact in
    let counted : c.if-mark.count ≡ cond (not (is_marked c.loop-lecture.seen n)) (c.loop-lecture.count + 1) c.loop-lecture.count = rw (← c.mark.ensures.fresh) (elim c.if-mark.branch [
      | then-mark w ↦ rw w.if-mark.true w.count-is
      | else-mark w ↦ rw w.if-mark.false w.count-is
    ]) in
    let fits : n < c.args.instance.now.days = rw is (day_fits c.args.instance.now x.slot (rw (← c.lecture-item.is) at (Each-at (Fits c.args.instance.now) c.args.lectures.now c.requires i x c.loop-lecture-test.true)).1) in
    record {
      so_far = distinct_more number c.args.instance.now.days c.args.lectures.now i n x c.loop-lecture.seen c.mark.new.self c.loop-lecture-test.true c.lecture-item.is is inv.marked c.loop-lecture.count c.if-mark.count fits inv.so_far counted;
      few = elim c.if-mark.branch [ then-mark w ↦ omega (arith, w.count-is, inv.few) | else-mark w ↦ omega (arith, w.count-is, inv.few) ];
      marked = marked_more number c.args.instance.now.days c.args.lectures.now i n x c.loop-lecture.seen c.mark.new.self c.loop-lecture-test.true c.lecture-item.is is inv.marked c.mark.ensures.marked;
    }

pub returns : goal.returns
returns c = c.loop-lecture.invariant.so_far ∙ ap (days_of c.args.instance.now) (take_all c.loop-lecture.lecture-index c.args.lectures.now (omega arith))
