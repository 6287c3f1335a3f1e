use Rattle.std.proofs.Common.{inr}
use Rattle.ctt_files.proofs.Plain.{passed_on}
use Rattle.ctt_commands.specs.Refusals.{IsOfSelected}
use Rattle.ctt_commands.proofs.subjects.fetch_behind.Goals as goal

pub returns-in_err-timetable-clause-cause : goal.returns-in_err-timetable-clause-cause
returns-in_err-timetable-clause-cause g c =
    let held = g.F.Files.held c.args.files.now in
    passed_on c.from_residual-in_err-timetable.result c.in_err-timetable.field-0.0 (IsOfSelected c.args.whose c.args.solution held c.args.instance.now) c.from_residual-in_err-timetable.ensures.1
    (inr (c.in_ok-selection.selection, c.in_ok-selection.ensures.found, c.in_err-timetable.ensures.cause))
