use Rattle.std.proofs.Common.{rules, sym, subst}
use Rattle.std.specs.List.{AllByRecursion as Each}
use Rattle.ctt_problem.proofs.TimetableLemmas.{Each-at}
use Rattle.ctt_draft.specs.Drafts.{AskedFits}
use Rattle.ctt_core.specs.Audits.{Replayed}
use Rattle.ctt_core.specs.Entries.{EntryFits}
use Rattle.ctt_core.proofs.AuditLemmas.{hearing_more, hearing_differs}
use Rattle.ctt_core.proofs.auditing.run_entries.Goals as goal

pub run_calls-requires : goal.run_calls-requires
run_calls-requires g c κs =
    let each : EntryFits (g.S.Rooms.problem c.args.sheet.now) c.index-entries-at.result = subst (EntryFits (g.S.Rooms.problem c.args.sheet.now)) (sym c.index-entries-at.is) (Each-at (EntryFits (g.S.Rooms.problem c.args.sheet.now)) c.args.entries.now c.requires c.loop-at.at c.index-entries-at.result c.loop-at-test.true) in
    let fit : Each (AskedFits (g.S.Rooms.problem c.loop-at.sheet)) c.as_slice.result.now = rw (c.as_slice.ensures, c.loop-at.invariant.same) each.1 in
    search rules

pub returns-in-Some-clause-found : goal.returns-in-Some-clause-found
returns-in-Some-clause-found g c =
    let run : Replayed (g.S.Rooms.problem c.loop-at.sheet) (g.S.Rooms.list c.loop-at.sheet) (g.S.Rooms.list c.run_calls.new.sheet) c.index-entries-at.result.asked c.in_ok-call.field-0 = subst (λ xs. Replayed (g.S.Rooms.problem c.loop-at.sheet) (g.S.Rooms.list c.loop-at.sheet) (g.S.Rooms.list c.run_calls.new.sheet) xs c.in_ok-call.field-0) c.as_slice.ensures c.in_ok-call.ensures.found in
    hearing_differs _ _ _ _ _ _ _ c.loop-at.invariant c.index-entries-at.result c.loop-at-test.true c.index-entries-at.is _ _ run c.in-Some.is

pub loop-at-preserved : goal.loop-at-preserved
loop-at-preserved g c =
    let run : Replayed (g.S.Rooms.problem c.loop-at.sheet) (g.S.Rooms.list c.loop-at.sheet) (g.S.Rooms.list c.run_calls.new.sheet) c.index-entries-at.result.asked c.in_ok-call.field-0 = subst (λ xs. Replayed (g.S.Rooms.problem c.loop-at.sheet) (g.S.Rooms.list c.loop-at.sheet) (g.S.Rooms.list c.run_calls.new.sheet) xs c.in_ok-call.field-0) c.as_slice.ensures c.in_ok-call.ensures.found in
    hearing_more _ _ _ _ _ _ _ c.loop-at.invariant c.index-entries-at.result c.loop-at-test.true c.index-entries-at.is _ _ c.in_ok-call.ensures.problem run c.in_default.is
