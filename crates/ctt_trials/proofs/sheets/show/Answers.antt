use Rattle.std.proofs.Common.{rules, subst}
use Rattle.ctt_edits.specs.Looks.{LookFits}
use Rattle.ctt_trials.proofs.sheets.show.Goals as goal

pub look-requires : goal.look-requires
look-requires g c κs =
    let asked : LookFits c.instance.result.now c.args.asked.now = search rules in
    let fits : LookFits (g.S.Rooms.problem c.args.sheet.now) c.args.asked.now = subst (λ i. LookFits i c.args.asked.now) c.instance.ensures asked in
    search rules

pub look-reply-requires : goal.look-reply-requires
look-reply-requires g c κs =
    let asked : LookFits c.instance.result.now c.args.asked.now = search rules in
    let fits : LookFits (g.S.Rooms.problem c.args.sheet.now) c.args.asked.now = subst (λ i. LookFits i c.args.asked.now) c.instance.ensures asked in
    search rules
