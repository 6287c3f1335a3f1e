use Rattle.std.proofs.Common.{inl, refl}
use Rattle.ctt_program.proofs.desk.fault_of_seat.Goals as goal

pub returns-in-Ok : goal.returns-in-Ok
returns-in-Ok c = inl (c.in-Ok.name, refl, c.in-Ok.ensures)
