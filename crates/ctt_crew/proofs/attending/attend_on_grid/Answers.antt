use Rattle.std.proofs.Common.{rules}
use Rattle.std.proofs.Crossing.{crosses}
use denote.Param.Send.{sendable}
use Rattle.ctt_problem.proofs.SharingLemmas.{instance_shared}
use Rattle.ctt_crew.proofs.attending.attend_on_grid.Goals as goal

pub attend-requires : goal.attend-requires
attend-requires g c κs = (search (instance_shared, sendable, crosses) depth 60 fits 20000, (search (instance_shared, sendable, crosses) depth 60 fits 20000, search rules))

pub returns : goal.returns
returns g c = c.attend.ensures
