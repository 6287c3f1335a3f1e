use Rattle.std.proofs.Common.{length}
use Rattle.ctt_office.proofs.office.fn.sit_at_once.scope.Goals as goal

pub returns-in-Err : goal.returns-in-Err
returns-in-Err g c = c.in-Err.ensures.fault (length c.captures.seats.items)
