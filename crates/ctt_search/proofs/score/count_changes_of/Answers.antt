use Rattle.std.proofs.Common.{rules, ◌≡◌, ◌<◌, ◌+◌, ◌-◌, ◌∙◌, List, sym, ap, ap₂, arith}
use Rattle.ctt_problem.specs.Problem.{Problem, course_count}
use Rattle.ctt_problem.specs.declared.placed.Placed.{Placed}
use Rattle.ctt_search.specs.Scores.{new_count}
use Rattle.ctt_search.proofs.score.count_changes_of.Goals as goal

pub count_new-gone-requires : goal.count_new-gone-requires
count_new-gone-requires g c κs =
    let same : g.S.Rooms.problem c.args.sheet.now ≡ g.S.Rooms.problem c.args.start.now = sym c.requires.same in
    let course : c.args.course < course_count (g.S.Rooms.problem c.args.start.now) = rw c.requires.same c.requires.course in
    search rules

pub returns : goal.returns
returns g c =
    let i : Problem = g.S.Rooms.problem c.args.sheet.now in
    let start : List Placed = g.S.Rooms.list c.args.start.now in
    let t : List Placed = g.S.Rooms.list c.args.sheet.now in
    let gone : c.count_new-gone.result ≡ new_count i t start c.args.course = c.count_new-gone.ensures.value ∙ ap (λ (j : Problem). new_count j t start c.args.course) c.requires.same in
    record {
      value = ap (λ n. c.count_new-new.result + n) c.saturating_sub.ensures ∙ ap₂ (λ a b. a + (b - a)) c.count_new-new.ensures.value gone;
      few = omega (arith, c.saturating_sub.ensures, c.count_new-new.ensures.few, c.count_new-gone.ensures.few);
    }
