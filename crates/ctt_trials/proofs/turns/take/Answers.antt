use Rattle.std.proofs.Common.{rules, subst, sym, ℕ}
use Rattle.ctt_core.specs.Runs.{EventFits}
use Rattle.ctt_trials.proofs.turns.take.Goals as goal

pub take-seat-requires : goal.take-seat-requires
take-seat-requires g c κs =
    let here : EventFits g.J.Naming.problem 64 c.args.event.now = subst (λ i. EventFits i 64 c.args.event.now) (sym c.requires.same) c.requires.fits in
    let fits : (n : ℕ) × EventFits g.J.Naming.problem n c.args.event.now = (64, here) in
    search rules
