use Rattle.std.proofs.Common.{rules, ◌≡◌, ◌<◌, ◌∙◌, ℕ, ap, arith}
use Rattle.ctt_problem.specs.Lists.{sum_below}
use Rattle.ctt_problem.specs.Problem.{course_count}
use Rattle.ctt_search.specs.Scores.{changes_of}
use Rattle.ctt_search.proofs.ScoreLemmas.{summed}
use Rattle.ctt_search.proofs.score.count_changes.Goals as goal

pub count_changes_of-requires : goal.count_changes_of-requires
count_changes_of-requires g c κs =
    let course : c.new.result < course_count (g.S.Rooms.problem c.args.sheet.now) = omega (arith, c.loop-number-test.true, c.new.ensures, c.courses-number-end.ensures.exact, ap course_count c.instance-instance.ensures) in
    let same = c.requires in
    search rules

pub loop-number-preserved : goal.loop-number-preserved
loop-number-preserved g c =
    let f : ℕ → ℕ = changes_of (g.S.Rooms.problem c.args.sheet.now) (g.S.Rooms.list c.args.start.now) (g.S.Rooms.list c.args.sheet.now) in
    let more = summed f c.loop-number.number c.new.result c.loop-number.total c.from-total.result c.new.ensures (c.from-total.ensures ∙ c.count_changes_of.ensures.value) c.loop-number.invariant.so_far in
    record {
      so_far = more;
      few = omega (arith, c.loop-number.invariant.few, c.from-total.ensures, c.count_changes_of.ensures.few);
    }

pub returns : goal.returns
returns g c =
    let f : ℕ → ℕ = changes_of (g.S.Rooms.problem c.args.sheet.now) (g.S.Rooms.list c.args.start.now) (g.S.Rooms.list c.args.sheet.now) in
    let all : c.loop-number.number ≡ course_count (g.S.Rooms.problem c.args.sheet.now) = omega (arith, c.loop-number-test.false, c.loop-number.auto.number-end, c.courses-number-end.ensures.exact, ap course_count c.instance-instance.ensures) in
    record {
      value = c.loop-number.invariant.so_far ∙ ap (sum_below f) all;
      few = omega (arith, c.loop-number.invariant.few, c.loop-number.auto.number-end, c.courses-number-end.ensures.few);
    }
