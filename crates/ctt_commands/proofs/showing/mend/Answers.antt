use Rattle.std.proofs.Common.{rules, subst, sym}
use Rattle.std.proofs.Crossing.{crosses}
use denote.Param.Send.{sendable}
use Rattle.ctt_problem.proofs.SharingLemmas.{instance_shared}
use Rattle.ctt_problem.specs.Timetable.{IsTimetable}
use Rattle.ctt_commands.proofs.showing.mend.Goals as goal

pub mend-requires : goal.mend-requires
mend-requires c κs =
    let fit : IsTimetable c.args.subject.now.instance c.as_slice-timetable.result.now = subst (IsTimetable c.args.subject.now.instance) (sym c.as_slice-timetable.ensures.value) c.requires in
    (search (instance_shared, sendable, crosses) depth 60 fits 20000, (search (instance_shared, sendable, crosses) depth 60 fits 20000, search rules))
