use Rattle.ctt_office.proofs.SittingLemmas.{coming_all}
use Rattle.ctt_office.proofs.sitting.open_seat.Goals as goal

pub returns-in-Ok-new-clause-lines : goal.returns-in-Ok-new-clause-lines
returns-in-Ok-new-clause-lines g c =
    coming_all c.in-Ok-new.lines (g.D.Input.Source.left c.in-Ok.input) (g.D.Doors.gives c.args.doors.now c.args.name.now) c.in-Ok-new.ensures.held c.in-Ok-new.ensures.left c.in-Ok.ensures.given
