use Rattle.std.proofs.Common.{rules, subst}
use Rattle.ctt_edits.specs.Calls.{CallFits}
use Rattle.ctt_edits.specs.Edits.{EditFits}
use Rattle.ctt_edits.specs.Looks.{LookFits}
use Rattle.ctt_draft.proofs.draft.Draft.call.Goals as goal

pub look-requires : goal.look-requires
look-requires g c κs =
    let fits : LookFits c.args.self.now.problem c.in-Look.look = subst (CallFits c.args.self.now.problem) c.in-Look.is c.requires in
    search rules

pub edit-requires : goal.edit-requires
edit-requires g c κs =
    let fits : EditFits c.args.self.now.problem c.in-Edit.edit = subst (CallFits c.args.self.now.problem) c.in-Edit.is c.requires in
    search rules
