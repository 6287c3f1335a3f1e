use Rattle.std.proofs.Common.{rules, ◌<◌, ap, arith}
use Rattle.ctt_problem.specs.Problem.{course_count}
use Rattle.ctt_search.proofs.held.add_held.Goals as goal

pub is_held-requires : goal.is_held-requires
is_held-requires g c κs =
    let course : c.new.result < course_count (g.S.Rooms.problem c.args.start.now) = omega (arith, c.loop-number-test.true, c.new.ensures, c.courses-number-end.ensures.exact, ap course_count c.instance.ensures) in
    let size = c.requires.size in
    let slot = c.requires.slot in
    search rules
