use Rattle.std.proofs.Common.{◌∙◌, sym}
use Rattle.ctt_views.specs.Grids.{is_of}
use Rattle.ctt_views.proofs.TextLemmas.{any_here, none_more}
use Rattle.ctt_views.proofs.signs.has_any_of.Goals as goal

pub returns-then-is_of : goal.returns-then-is_of
returns-then-is_of c =
    sym (any_here (is_of c.args.instance.now c.args.grid.now) c.args.row.now c.loop-lecture.lecture-index c.lecture-item.result c.loop-lecture-test.true c.lecture-item.is (sym c.is_of.ensures ∙ c.if-is_of.true))

pub loop-lecture-preserved : goal.loop-lecture-preserved
loop-lecture-preserved c =
    none_more (is_of c.args.instance.now c.args.grid.now) c.args.row.now c.loop-lecture.lecture-index c.lecture-item.result c.loop-lecture-test.true c.lecture-item.is c.loop-lecture.invariant (sym c.is_of.ensures ∙ c.if-is_of.false)
