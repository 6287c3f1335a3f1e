use Rattle.std.proofs.Common.{rules, subst}
use Rattle.ctt_draft.specs.DraftValues.{DraftValue, Settles}
use Rattle.ctt_core.specs.Runs.{after}
use Rattle.ctt_desk.proofs.locked.Locked.commit.Goals as goal

pub accept-requires : goal.accept-requires
accept-requires g c κs =
    let now = after g.J.Naming.problem g.J.Naming.opening c.args.self.now in
    let settles : Settles c.args.draft.value now = subst (λ (x : DraftValue). Settles x now) c.deref.ensures (c.stale.ensures.fresh c.in_default.is) in
    search rules
