use Rattle.std.proofs.Common.{◌<◌, rules, subst}
use Rattle.ctt_problem.specs.Problem.{course_count, slot_count}
use Rattle.ctt_edits.specs.Edits.{EditFits}
use Rattle.ctt_edits.specs.declared.edit.Edit.TheVariants.{Move, Reroom, Drop}
use Rattle.ctt_draft.proofs.draft.Draft.inverse.Goals as goal

pub room_before-requires : goal.room_before-requires
room_before-requires g c κs =
    let fits : EditFits c.args.self.now.problem (Move c.in-Move.course c.in-Move.slot c.in-Move.target c.in-Move.field-3) = subst (EditFits c.args.self.now.problem) c.in-Move.is c.requires.fits in
    let course : c.in-Move.course < course_count c.args.self.now.problem = fits.0 in
    let slot : c.in-Move.slot < slot_count c.args.self.now.problem = fits.1 in
    let made = c.requires.made in
    search rules

pub room_before-requires-in-Reroom : goal.room_before-requires-in-Reroom
room_before-requires-in-Reroom g c κs =
    let fits : EditFits c.args.self.now.problem (Reroom c.in-Reroom.course c.in-Reroom.slot c.in-Reroom.field-2) = subst (EditFits c.args.self.now.problem) c.in-Reroom.is c.requires.fits in
    let course : c.in-Reroom.course < course_count c.args.self.now.problem = fits.0 in
    let slot : c.in-Reroom.slot < slot_count c.args.self.now.problem = fits.1 in
    let made = c.requires.made in
    search rules

pub room_before-requires-in-Drop : goal.room_before-requires-in-Drop
room_before-requires-in-Drop g c κs =
    let fits : EditFits c.args.self.now.problem (Drop c.in-Drop.course c.in-Drop.slot) = subst (EditFits c.args.self.now.problem) c.in-Drop.is c.requires.fits in
    let course : c.in-Drop.course < course_count c.args.self.now.problem = fits.0 in
    let slot : c.in-Drop.slot < slot_count c.args.self.now.problem = fits.1 in
    let made = c.requires.made in
    search rules
