use Rattle.std.proofs.Common.{rules}
use Rattle.std.specs.List.{AllByRecursion as Each}
use Rattle.ctt_problem.specs.Timetable.{Fits}
use Rattle.ctt_core.specs.Entries.{EntryFits}
use Rattle.ctt_trials.proofs.journals.tell_entries.Goals as goal

pub list_after-requires : goal.list_after-requires
list_after-requires g c κs =
    let fit : Each (Fits c.args.script.now.small.now) c.args.script.now.opening.now = c.args.script.now.timetable.fits in
    let entries : Each (EntryFits c.args.script.now.small.now) c.args.entries.now = c.requires in
    search rules

pub list_after-left-requires : goal.list_after-left-requires
list_after-left-requires g c κs =
    let fit : Each (Fits c.args.script.now.small.now) c.args.script.now.opening.now = c.args.script.now.timetable.fits in
    let entries : Each (EntryFits c.args.script.now.small.now) c.args.entries.now = c.requires in
    search rules

pub audit-requires : goal.audit-requires
audit-requires g c κs =
    let fit : Each (Fits c.args.script.now.small.now) c.args.script.now.opening.now = c.args.script.now.timetable.fits in
    let entries : Each (EntryFits c.args.script.now.small.now) c.args.entries.now = c.requires in
    search rules

pub audit-found-requires : goal.audit-found-requires
audit-found-requires g c κs =
    let fit : Each (Fits c.args.script.now.small.now) c.args.script.now.opening.now = c.args.script.now.timetable.fits in
    let entries : Each (EntryFits c.args.script.now.small.now) c.args.entries.now = c.requires in
    search rules
