use Rattle.std.proofs.Common.{rules, sym, subst}
use Rattle.ctt_edits.specs.Looks.{LookFits}
use Rattle.ctt_draft.proofs.draft.Draft.peek.Goals as goal

pub look-requires : goal.look-requires
look-requires g c κs =
    let fits : LookFits (g.S.Rooms.problem c.present.result.now) c.args.look.now = subst (λ i. LookFits i c.args.look.now) (sym c.present.ensures.problem) c.requires in
    search rules
