use Rattle.ctt_problem.specs.Timetable.{IsTimetable, ByNeighbours}
use Rattle.ctt_problem.proofs.TimetableLemmas.{decides, IsTimetable-from_neighbours, IsTimetable-neighbours}
use Rattle.ctt_problem.proofs.timetable.is_timetable.Goals as goal

pub returns : goal.returns
returns c =
    decides c.ascends.result (ByNeighbours c.args.instance.now c.args.lectures.now) (IsTimetable c.args.instance.now c.args.lectures.now) c.ascends.ensures.yes c.ascends.ensures.no
    (IsTimetable-from_neighbours c.args.instance.now c.args.lectures.now) (IsTimetable-neighbours c.args.instance.now c.args.lectures.now)
