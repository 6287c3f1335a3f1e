use Rattle.std.proofs.Common.{◌||◌, ◌∙◌, sym, ap, ap₂}
use Rattle.std.proofs.lemmas.List.Folds.{list_any_more}
use Rattle.ctt_rules.specs.Windows.{has_bit, word_of}
use Rattle.ctt_problem.proofs.MarkLemmas.{either_bit}
use Rattle.ctt_rules.proofs.compactness.Words.union.Goals as goal

pub loop-course-preserved : goal.loop-course-preserved
loop-course-preserved c = λ place.
    let w = c.args.self.now in
    let m = c.course-item.result in
    either_bit c.loop-course.union c.of-union.result place
    ∙ ap₂ (λ a b. a || b) (c.loop-course.invariant place) (ap (λ n. has_bit n place) c.of-union.ensures ∙ ap (λ k. has_bit (word_of w k) place) c.course-item.is)
    ∙ sym (list_any_more (λ k. has_bit (word_of w k) place) c.args.courses.now c.loop-course.course-index m c.loop-course-test.true)
