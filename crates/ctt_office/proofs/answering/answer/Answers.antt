use Rattle.std.proofs.Common.{rules, ℕ, ◌+◌, ◌<◌, arith, sym, subst}
use Rattle.ctt_core.specs.Runs.{EventFits}
use Rattle.ctt_office.specs.SeatText.{LineFits}
use Rattle.ctt_office.specs.declared.seat_line.SeatLine.TheVariants.{Step}
use Rattle.ctt_office.proofs.answering.answer.Goals as goal

pub step-requires : goal.step-requires
step-requires g c κs =
    let p : ℕ = c.requires.fits.0 in
    let lt : p < p + 1 = omega arith in
    let all : LineFits c.args.instance.now p (Step c.in-Step.event) = subst (LineFits c.args.instance.now p) c.in-Step.is c.requires.fits.1 in
    let here : EventFits c.args.instance.now (p + 1) c.in-Step.event = all (p + 1) lt in
    let fits : (n : ℕ) × EventFits g.J.Naming.problem n c.in-Step.event = (p + 1, subst (λ i. EventFits i (p + 1) c.in-Step.event) (sym c.requires.same) here) in
    search rules
