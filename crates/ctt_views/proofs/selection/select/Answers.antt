use Rattle.std.proofs.Common.{◌≡◌, ◌∙◌, ap, arith, append-nil, sym, subst}
use Rattle.std.specs.List.{filter, AllByRecursion as Each}
use Rattle.std.proofs.lemmas.List.{take_all}
use Rattle.ctt_problem.specs.Timetable.{Fits}
use Rattle.ctt_rules.proofs.ListLemmas.{Each-filter}
use Rattle.ctt_views.specs.Week.{is_selected}
use Rattle.ctt_views.proofs.WeekLemmas.{more_pass}
use Rattle.ctt_views.proofs.selection.select.Goals as goal

pub loop-lecture-preserved : goal.loop-lecture-preserved
loop-lecture-preserved c =
    grind (arith, append-nil, more_pass (is_selected c.args.instance.now c.args.selection.now) c.args.timetable.now c.loop-lecture.lecture-index c.lecture-item.result c.loop-lecture-test.true c.lecture-item.is)

pub returns-clause-fits : goal.returns-clause-fits
returns-clause-fits c =
    let i = c.args.instance.now in
    let t = c.args.timetable.now in
    let p = is_selected i c.args.selection.now in
    let all : c.loop-lecture.list.items ≡ filter p t = c.loop-lecture.invariant ∙ ap (filter p) (take_all c.loop-lecture.lecture-index t c.loop-lecture-test.false) in
    subst (Each (Fits i)) (sym all) (Each-filter (Fits i) p t c.requires.fits)
