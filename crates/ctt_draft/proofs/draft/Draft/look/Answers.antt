use Rattle.std.proofs.Common.{rules, ◌≡◌, ◌∙◌, sym, ap₂, subst}
use Rattle.ctt_edits.specs.Looks.{LookFits, shown}
use Rattle.ctt_draft.specs.DraftValues.{present}
use Rattle.ctt_draft.proofs.draft.Draft.look.Goals as goal

pub look-requires : goal.look-requires
look-requires g c κs =
    let fits : LookFits (g.S.Rooms.problem c.present.result.now) c.args.look = subst (λ i. LookFits i c.args.look) (sym c.present.ensures.problem) c.requires.fits in
    search rules

pub keep-requires : goal.keep-requires
keep-requires g c κs =
    let told : c.in_ok-told.told ≡ shown c.args.self.now.problem (present c.args.self.now) c.args.look = c.in_ok-told.ensures ∙ ap₂ (λ i t. shown i t c.args.look) c.present.ensures.problem c.present.ensures.list in
    search rules
