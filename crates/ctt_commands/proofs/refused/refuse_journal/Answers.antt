use Rattle.std.proofs.Common.{inr}
use Rattle.ctt_commands.proofs.refused.refuse_journal.Goals as goal

pub returns-in-Ok : goal.returns-in-Ok
returns-in-Ok c = inr (c.in-Ok.point, c.in-Ok.ensures, c.fault_of_journal.ensures)
