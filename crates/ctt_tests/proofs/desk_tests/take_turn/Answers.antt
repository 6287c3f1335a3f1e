use Rattle.std.proofs.Common.{rules}
use Rattle.std.proofs.Crossing.{crosses}
use denote.Param.Send.{sendable}
use Rattle.ctt_problem.proofs.SharingLemmas.{instance_shared}
use Rattle.ctt_tests.proofs.desk_tests.take_turn.Goals as goal

pub commit_all-requires : goal.commit_all-requires
commit_all-requires g c κs = (search (instance_shared, sendable, crosses) depth 60 fits 20000, (search (instance_shared, sendable, crosses) depth 60 fits 20000, search rules))
