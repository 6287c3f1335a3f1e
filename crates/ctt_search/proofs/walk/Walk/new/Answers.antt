use Rattle.std.proofs.Common.{rules}
use Rattle.ctt_search.proofs.walk.Walk.new.Goals as goal

pub of-requires : goal.of-requires
of-requires g c κs = (let size = c.requires in search rules)
