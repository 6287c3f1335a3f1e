use Rattle.std.proofs.Common.{rules, subst}
use Rattle.ctt_problem.specs.Problem.{Problem}
use Rattle.ctt_edits.specs.Edits.{EditFits}
use Rattle.ctt_search.proofs.trying.change_of.Goals as goal

pub check-requires : goal.check-requires
check-requires g c κs =
    let fits : EditFits (g.S.Rooms.problem c.args.sheet.now) c.args.edit.now = subst (λ (i : Problem). EditFits i c.args.edit.now) c.instance.ensures (c.fits.ensures.0 c.if-not-fits.false) in
    search rules
