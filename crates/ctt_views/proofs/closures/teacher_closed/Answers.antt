use Rattle.std.proofs.Common.{rules, ◌≡◌, ◌∙◌, ◌&&◌, ℕ, Bool, true, false, sym, ap, ap₂}
use Rattle.std.specs.List.{list_all}
use Rattle.std.proofs.lemmas.List.Folds.{list_all_at, list_all_more}
use Rattle.ctt_problem.specs.Problem.{is_closed}
use Rattle.ctt_views.proofs.closures.teacher_closed.Goals as goal

pub returns-then-not-closed : goal.returns-then-not-closed
returns-then-not-closed c =
    let closed : ℕ → Bool = λ d. is_closed c.args.instance.now d c.args.slot in
    let free : closed c.course-item.result ≡ false = search rules in
    sym (ap (list_all closed) (sym c.taught_by-course-items.ensures.exact)
    ∙ list_all_at closed c.taught_by-course-items.result.now c.loop-course.course-index c.course-item.result c.loop-course-test.true (ap closed (sym c.course-item.is) ∙ free))

pub loop-course-preserved : goal.loop-course-preserved
loop-course-preserved c =
    let closed : ℕ → Bool = λ d. is_closed c.args.instance.now d c.args.slot in
    let one : closed c.course-item.result ≡ true = search rules in
    list_all_more closed c.taught_by-course-items.result.now c.loop-course.course-index c.course-item.result c.loop-course-test.true
    ∙ ap₂ (λ (a b : Bool). a && b) c.loop-course.invariant (ap closed (sym c.course-item.is) ∙ one)
