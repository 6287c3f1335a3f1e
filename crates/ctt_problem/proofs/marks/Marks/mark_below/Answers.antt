use Rattle.std.proofs.Common.{◌≡◌, ◌/◌, arith, subst}
use Rattle.ctt_problem.proofs.MarkLemmas.{FilledBelow, filled_none, filled_more, filled_within, filled_is, filled_are}
use Rattle.ctt_problem.proofs.marks.Marks.mark_below.Goals as goal

pub loop-place-init : goal.loop-place-init
loop-place-init c = filled_none c.self.inside.words

pub loop-place-preserved : goal.loop-place-preserved
loop-place-preserved c = filled_more c.self.inside.words c.loop-place.self-inside.words c.loop-place.place (filled_within c.self.inside.words c.args.count c.loop-place.place c.self.invariant c.requires c.loop-place-test.true) c.loop-place.invariant

pub invariant_of-self : goal.invariant_of-self
invariant_of-self c =
    let end : c.loop-place.place ≡ c.args.count / 64 = omega (arith, c.loop-place-test.false, c.loop-place.auto.place-end) in
    filled_are c.self.inside.words c.loop-place.self-inside.words c.args.count c.requires c.self.invariant (subst (FilledBelow c.self.inside.words c.loop-place.self-inside.words) end c.loop-place.invariant)

pub returns : goal.returns
returns c =
    let end : c.loop-place.place ≡ c.args.count / 64 = omega (arith, c.loop-place-test.false, c.loop-place.auto.place-end) in
    rw (← c.self.view_is) (filled_is c.self.inside.words c.loop-place.self-inside.words c.args.count c.requires c.self.invariant (subst (FilledBelow c.self.inside.words c.loop-place.self-inside.words) end c.loop-place.invariant))
