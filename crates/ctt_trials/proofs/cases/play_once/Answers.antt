use Rattle.std.proofs.Common.{rules}
use Rattle.std.proofs.Crossing.{crosses}
use denote.Param.Send.{sendable}
use Rattle.ctt_problem.proofs.SharingLemmas.{instance_shared}
use Rattle.ctt_trials.proofs.cases.play_once.Goals as goal

pub play_on-requires : goal.play_on-requires
play_on-requires g c κs = (search (instance_shared, sendable, crosses) depth 60 fits 20000, (search (instance_shared, sendable, crosses) depth 60 fits 20000, search rules))

pub play_on-requires-in-Grid : goal.play_on-requires-in-Grid
play_on-requires-in-Grid g c κs = (search (instance_shared, sendable, crosses) depth 60 fits 20000, (search (instance_shared, sendable, crosses) depth 60 fits 20000, search rules))
