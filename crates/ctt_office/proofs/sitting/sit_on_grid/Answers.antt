use Rattle.std.proofs.Common.{rules}
use Rattle.std.proofs.Crossing.{crosses}
use denote.Param.Send.{sendable}
use Rattle.ctt_problem.proofs.SharingLemmas.{instance_shared}
use Rattle.ctt_office.proofs.sitting.sit_on_grid.Goals as goal

pub sit_down-requires : goal.sit_down-requires
sit_down-requires g c κs = (
  search (instance_shared, sendable, crosses) depth 60 fits 20000,
  (
    search (sendable, crosses) depth 60 fits 20000,
    (
      search (sendable, crosses) depth 60 fits 20000,
      (
        search (instance_shared, sendable, crosses) depth 60 fits 20000,
        (
          search (sendable, crosses) depth 60 fits 20000,
          (search (sendable, crosses) depth 60 fits 20000, search rules),
        ),
      ),
    ),
  ),
)
