use Rattle.std.proofs.Common.{rules, ◌<◌, ap, arith}
use Rattle.ctt_problem.specs.Problem.{slot_count}
use Rattle.ctt_search.proofs.held.Held.of.Goals as goal

pub add_held-requires : goal.add_held-requires
add_held-requires g c κs =
    let slot : c.new.result < slot_count (g.S.Rooms.problem c.args.start.now) = omega (arith, c.loop-number-test.true, c.new.ensures, c.slots-number-end.ensures.exact, ap slot_count c.instance-instance.ensures) in
    let size = c.requires in
    search rules
