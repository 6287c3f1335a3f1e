use Rattle.std.proofs.Common.{rules, ◌<◌, ℕ, subst, ap, arith}
use borrow.Author.Count.{below_more}
use Rattle.ctt_problem.specs.Problem.{slot_count}
use Rattle.ctt_search.specs.Wishes.{KeepsPin}
use Rattle.ctt_search.proofs.WishLemmas.{holds}
use Rattle.ctt_search.proofs.keeping.keeps_pins_of.Goals as goal

pub keeps_pin-requires : goal.keeps_pin-requires
keeps_pin-requires g c κs =
    let slot : c.new.result < slot_count (g.S.Rooms.problem c.args.sheet.now) = omega (arith, c.loop-number-test.true, c.new.ensures, c.slots-number-end.ensures.exact, ap slot_count c.instance.ensures) in
    let same = c.requires.same in
    let size = c.requires.size in
    let course = c.requires.course in
    search rules

pub loop-number-preserved : goal.loop-number-preserved
loop-number-preserved g c =
    let Kept : ℕ → Type 0 = λ s. KeepsPin c.args.pins.now (g.S.Rooms.list c.args.start.now) (g.S.Rooms.list c.args.sheet.now) c.args.course s in
    below_more Kept c.loop-number.number c.loop-number.invariant (subst Kept c.new.ensures (holds c.keeps_pin.result (Kept c.new.result) c.keeps_pin.ensures c.if-not-keeps_pin.false))

pub returns : goal.returns
returns g c = λ s lt. c.loop-number.invariant s (omega (arith, lt, c.loop-number-test.false, c.slots-number-end.ensures.exact, ap slot_count c.instance.ensures))
