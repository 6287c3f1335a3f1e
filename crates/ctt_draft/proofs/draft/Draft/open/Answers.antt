use Rattle.ctt_draft.proofs.DraftSteps.{draft_opened, opened_on}
use Rattle.ctt_draft.proofs.draft.Draft.open.Goals as goal

pub invariant_of-result : goal.invariant_of-result
invariant_of-result g c = draft_opened _ _ _ _ _ _ _ _ _ c.lawful.ensures c.instance-instance.ensures c.in_ok-present.ensures.0 c.in_ok-present.ensures.1 c.new-2.ensures.items c.new-3.ensures.items c.in_ok-undo.ensures c.new-4.ensures

pub returns-clause-base : goal.returns-clause-base
returns-clause-base g c = opened_on _ _ _ _ _ _ _ _ _ c.lawful.ensures c.instance-instance.ensures c.in_ok-present.ensures.0 c.in_ok-present.ensures.1 c.new-2.ensures.items c.new-3.ensures.items c.in_ok-undo.ensures c.new-4.ensures
