-- Types that threads may share.
use Rattle.std.proofs.Crossing as std
use Rattle.std.proofs.MapsCrossing as maps
use denote.Param.Send.{IsSync, sendable}
use Rattle.ctt_problem.specs.contracts.instance.Instance.{the_row}

-- an instance: a separate step, since it has many fields
pub instance_shared : IsSync the_row
instance_shared = search (maps.String-sync, sendable, std.crosses) depth 60 fits 20000
