use Rattle.std.proofs.Common.{rules, sym, subst}
use Rattle.ctt_problem.specs.Timetable.{Fits}
use Rattle.ctt_problem.proofs.TimetableLemmas.{Each-at}
use Rattle.ctt_core.proofs.opening.place_all.Goals as goal

pub place-fault-requires : goal.place-fault-requires
place-fault-requires g c κs =
    let each : Fits c.args.instance.now c.index-lectures-at.result = subst (Fits c.args.instance.now) (sym c.index-lectures-at.is) (Each-at (Fits c.args.instance.now) c.args.lectures.now c.requires c.loop-at.at c.index-lectures-at.result c.loop-at-test.true) in
    let fits : Fits (g.S.Rooms.problem c.loop-at.sheet) c.index-lectures-at.result = subst (λ i. Fits i c.index-lectures-at.result) (sym c.loop-at.invariant.same) each in
    let course = fits.0 in
    let slot = fits.1 in
    let room = fits.2 in
    search rules
