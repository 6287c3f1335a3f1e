use Rattle.std.proofs.Common.{rules, ◌≡◌, ◌∙◌, sym}
use Rattle.ctt_search.proofs.improving.go_on.Goals as goal

pub look_back-requires : goal.look_back-requires
look_back-requires g c κs =
    let same : g.S.Rooms.problem c.args.start.now ≡ g.S.Rooms.problem c.wander-made.new.sheet = sym (c.wander-made.ensures.problem ∙ c.rounds.invariant.problem) in
    let size = c.requires.size in
    let own = c.requires.own in
    let own_small = c.requires.own_small in
    let found = c.rounds.invariant.found in
    search rules
