use Rattle.std.proofs.Common.{rules}
use Rattle.ctt_search.proofs.improving.look_back.Goals as goal

pub keep-requires : goal.keep-requires
keep-requires g c κs =
    let same = c.requires.same in
    let size = c.requires.size in
    let own = c.requires.own in
    let own_small = c.requires.own_small in
    let found = c.requires.found in
    search rules
