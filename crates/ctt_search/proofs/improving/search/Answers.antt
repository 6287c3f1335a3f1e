use Rattle.std.proofs.Common.{rules, List}
use Rattle.ctt_problem.specs.Problem.{Problem}
use Rattle.ctt_problem.specs.declared.placed.Placed.{Placed}
use Rattle.ctt_search.specs.Wishes.{IsFound}
use Rattle.ctt_search.proofs.WishLemmas.{start_found}
use Rattle.ctt_search.proofs.improving.search.Goals as goal

pub go_on-requires : goal.go_on-requires
go_on-requires g c κs =
    let i : Problem = g.S.Rooms.problem c.args.start.now in
    let t : List Placed = g.S.Rooms.list c.args.start.now in
    let w = c.args.wish.now in
    let size = c.requires in
    let own = c.score_of-own.ensures.value in
    let own_small = c.score_of-own.ensures.small in
    let found : IsFound i (g.S.Rooms.problem c.in_ok-copy.copy) c.args.aim w.pins w.most_changes t (g.S.Rooms.list c.in_ok-copy.copy) c.score_of-own.result =
    start_found i (g.S.Rooms.problem c.in_ok-copy.copy) c.args.aim w.pins w.most_changes t (g.S.Rooms.list c.in_ok-copy.copy) c.score_of-own.result c.lawful.ensures c.in_ok-copy.ensures.0 c.in_ok-copy.ensures.1 own own_small in
    search rules
