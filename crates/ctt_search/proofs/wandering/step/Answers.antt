use Rattle.std.proofs.Common.{rules}
use Rattle.ctt_search.proofs.wandering.step.Goals as goal

pub make_if_good-requires : goal.make_if_good-requires
make_if_good-requires g c κs = (let fits = c.in-Some.ensures in search rules)
