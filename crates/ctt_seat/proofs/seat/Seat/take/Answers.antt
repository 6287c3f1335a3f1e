use Rattle.std.proofs.Common.{rules, subst}
use Rattle.ctt_edits.specs.Calls.{CallFits}
use Rattle.ctt_edits.specs.Looks.{LookFits}
use Rattle.ctt_core.specs.Runs.{EventFits}
use Rattle.ctt_seat.proofs.seat.Seat.take.Goals as goal

pub show-requires : goal.show-requires
show-requires g c κs =
    let fits : LookFits g.J.Naming.problem c.in-Show.look = subst (EventFits g.J.Naming.problem c.requires.fits.0) c.in-Show.is c.requires.fits.1 in
    search rules

pub peek-told-requires : goal.peek-told-requires
peek-told-requires g c κs =
    let all = subst (EventFits g.J.Naming.problem c.requires.fits.0) c.in-Peek.is c.requires.fits.1 in
    let fits : LookFits g.J.Naming.problem c.in-Peek.look = all.1 in
    search rules

pub ask-told-requires : goal.ask-told-requires
ask-told-requires g c κs =
    let all = subst (EventFits g.J.Naming.problem c.requires.fits.0) c.in-Ask.is c.requires.fits.1 in
    let fits : CallFits g.J.Naming.problem c.in-Ask.call = all.1 in
    search rules
