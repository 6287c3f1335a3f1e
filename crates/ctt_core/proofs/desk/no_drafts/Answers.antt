use Rattle.std.proofs.Common.{◌≡◌, ◌+◌, ◌∙◌, ◌∷◌, [], ◌++◌, None, length, length-append, ap}
use Rattle.ctt_core.specs.Desks.{draft_at}
use Rattle.ctt_core.proofs.OpeningLemmas.{none_more}
use Rattle.ctt_core.proofs.desk.no_drafts.Goals as goal

pub loop-preserved : goal.loop-preserved
loop-preserved g c =
    let longer : c.push.new.self.items ≡ c.loop.drafts.items ++ None ∷ [] = c.in_ok-push.ensures.items in
    (ap length longer ∙ length-append c.loop.drafts.items (None ∷ []) ∙ ap (λ n. n + 1) c.loop.invariant.0, λ p. ap (λ ds. draft_at ds p) longer ∙ none_more c.loop.drafts.items c.loop.invariant.1 p)
