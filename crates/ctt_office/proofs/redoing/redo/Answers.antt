use Rattle.std.proofs.Common.{rules, subst}
use Rattle.std.specs.List.{AllByRecursion as Each}
use Rattle.ctt_draft.specs.Drafts.{AskedFits}
use Rattle.ctt_office.specs.Ended.{EndedFits}
use Rattle.ctt_office.proofs.redoing.redo.Goals as goal

pub redo_calls-requires : goal.redo_calls-requires
redo_calls-requires g c κs =
    let fits : Each (AskedFits c.args.instance.now) c.in-Some.asked = subst (EndedFits c.args.instance.now) c.in-Some.is c.requires.fits in
    search rules
