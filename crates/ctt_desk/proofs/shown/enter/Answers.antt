use Rattle.ctt_desk.proofs.PrefixLemmas.{prefix_self}
use Rattle.ctt_desk.proofs.PublishedLemmas.{sees}
use Rattle.ctt_desk.proofs.shown.enter.Goals as goal

pub enter_as-requires : goal.enter_as-requires
enter_as-requires g c = λ x views h at. sees _ _ _ _ _ _ _ _ _ _ (prefix_self x.history) h.right views h at
