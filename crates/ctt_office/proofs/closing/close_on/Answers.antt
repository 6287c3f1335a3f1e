use Rattle.ctt_desk.proofs.PrefixLemmas.{prefix_trans}
use Rattle.ctt_office.proofs.closing.close_on.Goals as goal

pub end-writer-requires-after_bounds : goal.end-writer-requires-after_bounds
end-writer-requires-after_bounds g c κs within = λ yes. prefix_trans _ _ _ c.show.ensures (c.close_by-closed.ensures yes)
