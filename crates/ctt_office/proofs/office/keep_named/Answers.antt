use Rattle.std.proofs.Common.{length}
use Rattle.ctt_office.proofs.office.keep_named.Goals as goal

pub returns-in-Ok-clause-fault : goal.returns-in-Ok-clause-fault
returns-in-Ok-clause-fault g c = c.close.ensures.fault (length c.args.names.now) c.seat_all-sat.ensures

pub returns-in-Err-clause-fault : goal.returns-in-Err-clause-fault
returns-in-Err-clause-fault g c = c.in-Err.ensures.fault (length c.args.names.now)
