use Rattle.std.proofs.Common.{rules, subst, sym}
use Rattle.ctt_office.specs.Ended.{EndedFits}
use Rattle.ctt_office.proofs.sitting.sit_down.Goals as goal

pub open_and_sit-planner-requires : goal.open_and_sit-planner-requires
open_and_sit-planner-requires g c κs =
    let fits : EndedFits c.args.task.instance.now c.new-place.result.ended = subst (EndedFits c.args.task.instance.now) (sym c.new-place.ensures.ended) tt in
    search rules
