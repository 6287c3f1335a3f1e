use Rattle.std.proofs.Common.{rules, sym, subst}
use Rattle.ctt_problem.specs.Timetable.{Fits}
use Rattle.ctt_problem.proofs.TimetableLemmas.{Each-at}
use Rattle.ctt_commands.proofs.mended.sift.Goals as goal

pub place-fault-requires : goal.place-fault-requires
place-fault-requires g c κs =
    let each : Fits c.args.instance.now c.lecture-item.result = subst (Fits c.args.instance.now) (sym c.lecture-item.is) (Each-at (Fits c.args.instance.now) c.args.lectures.now c.requires c.loop-lecture.lecture-index c.lecture-item.result c.loop-lecture-test.true) in
    let fits : Fits (g.S.Rooms.problem c.loop-lecture.sheet) c.lecture-item.result = subst (λ i. Fits i c.lecture-item.result) (sym c.loop-lecture.invariant.same) each in
    let course = fits.0 in
    let slot = fits.1 in
    let room = fits.2 in
    search rules
