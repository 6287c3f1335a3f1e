use Rattle.std.proofs.Common.{rules}
use Rattle.std.specs.List.{AllByRecursion as Each}
use Rattle.ctt_problem.specs.Timetable.{Fits}
use Rattle.ctt_trials.proofs.desks.play.Goals as goal

pub open-requires : goal.open-requires
open-requires g c κs =
    let fit : Each (Fits c.args.script.now.small.now) c.args.script.now.opening.now = c.args.script.now.timetable.fits in
    search rules
