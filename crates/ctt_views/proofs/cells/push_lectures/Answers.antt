use Rattle.std.proofs.Common.{string_bytes}
use Rattle.ctt_views.specs.Cells.{lecture_text}
use Rattle.ctt_views.specs.Grids.{is_of}
use Rattle.ctt_views.proofs.TextLemmas.{passes_on}
use Rattle.ctt_views.proofs.cells.push_lectures.Goals as goal

pub loop-lecture-preserved : goal.loop-lecture-preserved
loop-lecture-preserved c =
    let i = c.args.instance.now in
    let w = c.args.week.now in
    let v = c.args.view.now in
    let g = c.args.grid.now in
    passes_on (is_of i g) (lecture_text i w v g) c.args.row.now c.loop-lecture.lecture-index c.lecture-item.result c.loop-lecture-test.true c.lecture-item.is
    (string_bytes c.args.page.now) (string_bytes c.loop-lecture.page) (string_bytes c.push_shown.new.page) c.loop-lecture.invariant c.in_ok-push_shown.ensures
