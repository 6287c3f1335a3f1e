use Rattle.std.proofs.Common.{rules, subst}
use Rattle.ctt_edits.specs.Edits.{EditFits}
use Rattle.ctt_trials.proofs.sheets.make.Goals as goal

pub check-requires : goal.check-requires
check-requires g c κs =
    let asked : EditFits c.instance.result.now c.args.edit.now = search rules in
    let fits : EditFits (g.S.Rooms.problem c.args.sheet.now) c.args.edit.now = subst (λ i. EditFits i c.args.edit.now) c.instance.ensures asked in
    search rules
