use Rattle.std.proofs.Common.{◌<◌, sym, subst}
use Rattle.std.specs.List.{AllByRecursion as Each}
use Rattle.ctt_grid.proofs.counts.Counts.add.Goals as goal

pub mark_slot-requires-clause-curricula : goal.mark_slot-requires-clause-curricula
mark_slot-requires-clause-curricula c = subst (λ n. Each (λ q. q < n) c.curricula_of-curricula.result.now) (sym c.requires.sizes.curricula.0) c.curricula_of-curricula.ensures.within
