use Rattle.std.proofs.Common.{rules, subst}
use Rattle.std.specs.Prelude.{IfSome}
use Rattle.ctt_edits.specs.Edits.{EditFits}
use Rattle.ctt_office.proofs.undoing.undo_in.Goals as goal

pub call-requires : goal.call-requires
call-requires g c κs =
    let fits : EditFits g.J.Naming.problem c.in-Ok-Some.edit = subst (λ o. IfSome o (EditFits g.J.Naming.problem)) c.in-Ok-Some.field-0-is c.in-Ok-Some.ensures.fits in
    search rules
