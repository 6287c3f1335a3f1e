use Rattle.std.proofs.Common.{rules, ◌≡◌, [], None, sym, subst}
use Rattle.ctt_edits.specs.Calls.{reply, cells_of_call}
use Rattle.ctt_edits.specs.Edits.{EditFits, edit_fault, change}
use Rattle.ctt_edits.specs.declared.call.Call.TheVariants.{Edit as Edits}
use Rattle.ctt_edits.specs.declared.reply.Reply.TheVariants.{Refused}
use Rattle.ctt_draft.specs.DraftValues.{present}
use Rattle.ctt_draft.proofs.CheckLemmas.{accepted, refused}
use Rattle.ctt_draft.proofs.draft.Draft.edit.Goals as goal

pub check-checked-requires : goal.check-checked-requires
check-checked-requires g c κs =
    let fits : EditFits (g.S.Rooms.problem c.present.result.now) c.args.edit.now = subst (λ i. EditFits i c.args.edit.now) (sym c.present.ensures.problem) c.requires.fits in
    search rules

pub make-requires : goal.make-requires
make-requires g c κs =
    let both : (edit_fault c.args.self.now.problem (present c.args.self.now) c.args.edit.now ≡ None) × (c.in-Ok.change ≡ change (present c.args.self.now) c.args.edit.now) = accepted _ _ _ _ _ _ c.in-Ok.ensures.change c.present.ensures.problem c.present.ensures.list in
    let free = both.0 in
    let same = both.1 in
    let fits = c.requires.fits in
    search rules

pub keep-requires : goal.keep-requires
keep-requires g c κs =
    let both : (Refused c.in-Err.fault ≡ reply c.args.self.now.problem (present c.args.self.now) (Edits c.args.edit.now)) × (cells_of_call c.args.self.now.problem (present c.args.self.now) (Edits c.args.edit.now) ≡ []) = refused _ _ _ _ _ _ c.in-Err.ensures.change c.present.ensures.problem c.present.ensures.list in
    let told : Refused c.in-Err.fault ≡ reply c.args.self.now.problem (present c.args.self.now) (Edits c.args.edit.now) = both.0 in
    let still = both.1 in
    let fits = c.requires.fits in
    search rules
