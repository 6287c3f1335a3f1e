use Rattle.std.proofs.Common.{rules, ◌≡◌, ◌<◌, ◌∙◌, ℕ, Bool, sym, ap, arith}
use Rattle.ctt_problem.specs.Lists.{count_below}
use Rattle.ctt_problem.specs.Problem.{slot_count}
use Rattle.ctt_search.specs.Scores.{is_new}
use Rattle.ctt_search.proofs.ScoreLemmas.{counted, not_counted}
use Rattle.ctt_search.proofs.score.count_new.Goals.{then-is_new, else-is_new}
use Rattle.ctt_search.proofs.score.count_new.Goals as goal

pub is_new-requires : goal.is_new-requires
is_new-requires g c κs =
    let slot : c.new.result < slot_count (g.S.Rooms.problem c.args.sheet.now) = omega (arith, c.loop-number-test.true, c.new.ensures, c.slots-number-end.ensures.exact, ap slot_count c.instance-instance.ensures) in
    let same = c.requires.same in
    let course = c.requires.course in
    search rules

pub loop-number-preserved : goal.loop-number-preserved
loop-number-preserved g c =
    let p : ℕ → Bool = is_new (g.S.Rooms.list c.args.start.now) (g.S.Rooms.list c.args.sheet.now) c.args.course in
    let n : ℕ = c.loop-number.number in
    elim c.if-is_new.branch [
      | then-is_new w ↦ (let more = counted p n c.new.result c.loop-number.count c.new.ensures (sym c.is_new.ensures ∙ w.if-is_new.true) c.loop-number.invariant.so_far in
          record { so_far = w.count-is ∙ more; few = omega (arith, w.count-is, c.loop-number.invariant.few) })
      | else-is_new w ↦ (let same = not_counted p n c.new.result c.loop-number.count c.new.ensures (sym c.is_new.ensures ∙ w.if-is_new.false) c.loop-number.invariant.so_far in
          record { so_far = w.count-is ∙ same; few = omega (arith, w.count-is, c.loop-number.invariant.few) })
    ]

pub returns : goal.returns
returns g c =
    let p : ℕ → Bool = is_new (g.S.Rooms.list c.args.start.now) (g.S.Rooms.list c.args.sheet.now) c.args.course in
    let all : c.loop-number.number ≡ slot_count (g.S.Rooms.problem c.args.sheet.now) = omega (arith, c.loop-number-test.false, c.loop-number.auto.number-end, c.slots-number-end.ensures.exact, ap slot_count c.instance-instance.ensures) in
    record {
      value = c.loop-number.invariant.so_far ∙ ap (count_below p) all;
      few = omega (arith, c.loop-number.invariant.few, c.loop-number.auto.number-end, c.slots-number-end.ensures.few);
    }
