use Rattle.std.proofs.Common.{rules, subst, sym}
use Rattle.ctt_edits.specs.Calls.{CallFits}
use Rattle.ctt_trials.proofs.drafts.ask.Goals as goal

pub call-requires : goal.call-requires
call-requires g c κs =
    let fits : CallFits c.args.draft.now.problem c.in-Some.call = subst (λ i. CallFits i c.in-Some.call) c.instance.ensures c.in-Some.ensures in
    search rules

pub call-requires-in-Err : goal.call-requires-in-Err
call-requires-in-Err g c κs =
    let fits : CallFits c.args.draft.now.problem c.in-Some.call = subst (λ i. CallFits i c.in-Some.call) c.instance.ensures c.in-Some.ensures in
    let again : CallFits c.call.new.self.problem c.in-Some.call = subst (λ d. CallFits d.problem c.in-Some.call) (sym c.in-Err.ensures.err) fits in
    search rules
