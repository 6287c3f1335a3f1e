use Rattle.std.proofs.Common.{◌<◌, sym, subst}
use Rattle.std.specs.List.{AllByRecursion as Each}
use Rattle.ctt_grid.proofs.counts.Counts.take.Goals as goal

pub unmark_slot-requires-clause-curricula : goal.unmark_slot-requires-clause-curricula
unmark_slot-requires-clause-curricula c = subst (λ n. Each (λ q. q < n) c.curricula_of-curricula.result.now) (sym c.requires.sizes.curricula.0) c.curricula_of-curricula.ensures.within
