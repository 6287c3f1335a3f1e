use Rattle.std.proofs.Common.{rules, sym, subst, true≢false}
use Rattle.ctt_problem.proofs.TimetableLemmas.{Each-at}
use Rattle.ctt_edits.specs.Calls.{CallFits}
use Rattle.ctt_draft.specs.Drafts.{AskedFits}
use Rattle.ctt_core.proofs.AuditLemmas.{running_more, running_differs}
use Rattle.ctt_core.proofs.auditing.run_calls.Goals as goal

pub answer-requires : goal.answer-requires
answer-requires g c κs =
    let each : AskedFits (g.S.Rooms.problem c.args.sheet.now) c.index-asked-at.result = subst (AskedFits (g.S.Rooms.problem c.args.sheet.now)) (sym c.index-asked-at.is) (Each-at (AskedFits (g.S.Rooms.problem c.args.sheet.now)) c.args.asked.now c.requires c.loop-at.at c.index-asked-at.result c.loop-at-test.true) in
    let fits : CallFits (g.S.Rooms.problem c.loop-at.sheet) c.index-asked-at.result.call = subst (λ i. CallFits i c.index-asked-at.result.call) (sym c.loop-at.invariant.same) each.0 in
    search rules

pub returns-then-not-is_same-clause-found : goal.returns-then-not-is_same-clause-found
returns-then-not-is_same-clause-found g c = running_differs _ _ _ _ _ _ c.loop-at.invariant c.index-asked-at.result c.loop-at-test.true c.index-asked-at.is _ c.in_ok-told.ensures.told (λ e. true≢false (sym (c.if-not-is_same.ensures.1 e)))

pub loop-at-preserved : goal.loop-at-preserved
loop-at-preserved g c = running_more _ _ _ _ _ _ c.loop-at.invariant c.index-asked-at.result c.loop-at-test.true c.index-asked-at.is _ c.in_ok-told.ensures.told _ _ c.in_ok-told.ensures.problem c.in_ok-told.ensures.list (c.if-not-is_same.ensures.0 (search rules))
