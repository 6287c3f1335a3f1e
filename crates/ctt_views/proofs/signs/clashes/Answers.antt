use Rattle.std.proofs.Common.{◌∙◌, sym}
use Rattle.ctt_problem.specs.Problem.{clash}
use Rattle.ctt_views.proofs.TextLemmas.{any_here, none_more}
use Rattle.ctt_views.proofs.signs.clashes.Goals as goal

pub returns-then-clash : goal.returns-then-clash
returns-then-clash c =
    sym (any_here (λ m. clash c.args.instance.now c.args.lecture.now.course m.course) c.args.row.now c.loop-other.other-index c.other-item.result c.loop-other-test.true c.other-item.is (sym c.clash.ensures ∙ c.if-clash.true))

pub loop-other-preserved : goal.loop-other-preserved
loop-other-preserved c =
    none_more (λ m. clash c.args.instance.now c.args.lecture.now.course m.course) c.args.row.now c.loop-other.other-index c.other-item.result c.loop-other-test.true c.other-item.is c.loop-other.invariant (sym c.clash.ensures ∙ c.if-clash.false)
