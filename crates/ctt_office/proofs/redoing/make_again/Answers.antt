use Rattle.std.proofs.Common.{rules, subst, sym}
use Rattle.ctt_edits.specs.Edits.{EditFits}
use Rattle.ctt_office.proofs.redoing.make_again.Goals as goal

pub fault_of-requires : goal.fault_of-requires
fault_of-requires g c κs =
    let fits : EditFits g.J.Naming.problem c.args.edit.now = subst (λ i. EditFits i c.args.edit.now) (sym c.requires.same) c.requires.fits in
    search rules

pub call-requires : goal.call-requires
call-requires g c κs =
    let fits : EditFits g.J.Naming.problem c.args.edit.now = subst (λ i. EditFits i c.args.edit.now) (sym c.requires.same) c.requires.fits in
    search rules
