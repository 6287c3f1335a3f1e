use Rattle.std.proofs.Common.{rules, subst}
use Rattle.ctt_edits.specs.Calls.{CallFits}
use Rattle.ctt_edits.specs.Edits.{EditFits}
use Rattle.ctt_edits.specs.Looks.{LookFits}
use Rattle.ctt_core.proofs.auditing.answer.Goals as goal

pub look-requires : goal.look-requires
look-requires g c κs =
    let fits : LookFits (g.S.Rooms.problem c.args.sheet.now) c.in-Look.look = subst (CallFits (g.S.Rooms.problem c.args.sheet.now)) c.in-Look.is c.requires in
    search rules

pub make-requires : goal.make-requires
make-requires g c κs =
    let fits : EditFits (g.S.Rooms.problem c.args.sheet.now) c.in-Edit.edit = subst (CallFits (g.S.Rooms.problem c.args.sheet.now)) c.in-Edit.is c.requires in
    search rules
