use Rattle.std.proofs.Common.{rules, subst, sym}
use Rattle.std.proofs.Crossing.{crosses}
use Rattle.std.specs.List.{AllByRecursion as Each}
use denote.Param.Send.{sendable}
use Rattle.ctt_problem.proofs.SharingLemmas.{instance_shared}
use Rattle.ctt_problem.specs.Timetable.{Fits}
use Rattle.ctt_core.specs.Entries.{EntryFits}
use Rattle.ctt_commands.proofs.auditing.list.Goals as goal

pub show_left-requires : goal.show_left-requires
show_left-requires c κs =
    let lectures : Each (Fits c.args.replay.now.instance) c.as_slice-lectures.result.now = subst (Each (Fits c.args.replay.now.instance)) (sym c.as_slice-lectures.ensures.value) c.requires.0 in
    let entries : Each (EntryFits c.args.replay.now.instance) c.as_slice-entries.result.now = subst (Each (EntryFits c.args.replay.now.instance)) (sym c.as_slice-entries.ensures.value) c.requires.1 in
    (search (instance_shared, sendable, crosses) depth 60 fits 20000, (search (instance_shared, sendable, crosses) depth 60 fits 20000, search rules))
