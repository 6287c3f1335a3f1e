use Rattle.ctt_edits.specs.declared.edit.Edit.TheVariants.{Place}
use Rattle.ctt_edits.proofs.ReplyLemmas.{edit_fits}
use Rattle.ctt_commands.specs.Mended.{fault_on}
use Rattle.ctt_commands.proofs.MendLemmas.{refused_fits}
use Rattle.ctt_commands.proofs.mended.place.Goals as goal

pub returns-in-Err-clause-fits : goal.returns-in-Err-clause-fits
returns-in-Err-clause-fits g c =
    let i = g.S.Rooms.problem c.args.sheet.now in
    let t = g.S.Rooms.list c.args.sheet.now in
    let l = c.args.lecture.now in
    refused_fits i (fault_on i t l) _ c.in-Err.fault (edit_fits i t (Place l.course l.slot l.room) c.lawful.ensures c.requires) c.in-Err.ensures.change
