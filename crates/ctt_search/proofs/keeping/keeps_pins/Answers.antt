use Rattle.std.proofs.Common.{rules, ◌<◌, ℕ, subst, ap, arith}
use borrow.Author.Count.{below_more}
use Rattle.ctt_problem.specs.Problem.{course_count}
use Rattle.ctt_search.specs.Wishes.{KeepsPinsOf}
use Rattle.ctt_search.proofs.WishLemmas.{holds}
use Rattle.ctt_search.proofs.keeping.keeps_pins.Goals as goal

pub keeps_pins_of-requires : goal.keeps_pins_of-requires
keeps_pins_of-requires g c κs =
    let course : c.new.result < course_count (g.S.Rooms.problem c.args.sheet.now) = omega (arith, c.loop-number-test.true, c.new.ensures, c.courses-number-end.ensures.exact, ap course_count c.instance.ensures) in
    let same = c.requires.same in
    let size = c.requires.size in
    search rules

pub loop-number-preserved : goal.loop-number-preserved
loop-number-preserved g c =
    let Kept : ℕ → Type 0 = λ k. KeepsPinsOf (g.S.Rooms.problem c.args.sheet.now) c.args.pins.now (g.S.Rooms.list c.args.start.now) (g.S.Rooms.list c.args.sheet.now) k in
    below_more Kept c.loop-number.number c.loop-number.invariant (subst Kept c.new.ensures (holds c.keeps_pins_of.result (Kept c.new.result) c.keeps_pins_of.ensures c.if-not-keeps_pins_of.false))

pub returns : goal.returns
returns g c = λ k lt. c.loop-number.invariant k (omega (arith, lt, c.loop-number-test.false, c.courses-number-end.ensures.exact, ap course_count c.instance.ensures))
