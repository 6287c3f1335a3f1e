use Rattle.std.proofs.Common.{rules, ℕ, ◌+◌, ◌<◌, arith, sym, subst}
use Rattle.std.specs.Prelude.{IfSome}
use Rattle.ctt_core.specs.Runs.{EventFits}
use Rattle.ctt_crew.proofs.attending.answer_own_line.Goals as goal

pub take-seat-requires : goal.take-seat-requires
take-seat-requires g c κs =
    let n : ℕ = c.args.planner + 1 in
    let lt : c.args.planner < c.args.planner + 1 = omega arith in
    let here : EventFits c.args.instance.now n c.in-Some.event = subst (λ o. IfSome o (EventFits c.args.instance.now n)) c.in-Some.is (c.requires.fits n lt) in
    let fits : (n : ℕ) × EventFits g.J.Naming.problem n c.in-Some.event = (n, subst (λ i. EventFits i n c.in-Some.event) (sym c.requires.same) here) in
    search rules
