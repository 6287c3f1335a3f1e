use Rattle.std.proofs.Common.{rules, ◌≡◌, ◌∙◌, List, ap, subst}
use Rattle.ctt_problem.specs.BitRows.{HasSize}
use Rattle.ctt_problem.specs.Problem.{Problem, course_count, slot_count}
use Rattle.ctt_problem.specs.declared.placed.Placed.{Placed}
use Rattle.ctt_search.specs.Scores.{score}
use Rattle.ctt_search.specs.Wishes.{IsProposal}
use Rattle.ctt_search.proofs.WishLemmas.{holds, newly_found}
use Rattle.ctt_search.proofs.improving.keep.Goals as goal

pub may_propose-requires : goal.may_propose-requires
may_propose-requires g c κs =
    let i : Problem = g.S.Rooms.problem c.args.sheet.now in
    let start : List Placed = g.S.Rooms.list c.args.start.now in
    let same = c.requires.same in
    let size : HasSize c.args.wish.now.pins (slot_count i) (course_count i) = subst (λ (j : Problem). HasSize c.args.wish.now.pins (slot_count j) (course_count j)) c.requires.same c.requires.size in
    let own : c.args.own.now ≡ score i start start = c.requires.own ∙ ap (λ (j : Problem). score j start start) c.requires.same in
    let own_small = c.requires.own_small in
    let reached = c.score_of-score.ensures.value in
    let small = c.score_of-score.ensures.small in
    search rules

pub returns : goal.returns
returns g c =
    let i : Problem = g.S.Rooms.problem c.args.start.now in
    let j : Problem = g.S.Rooms.problem c.args.sheet.now in
    let start : List Placed = g.S.Rooms.list c.args.start.now in
    let t : List Placed = g.S.Rooms.list c.args.sheet.now in
    let w = c.args.wish.now in
    record {
      found = newly_found i j (g.S.Rooms.problem c.in_ok-copy.copy) c.args.aim w.pins w.most_changes start t (g.S.Rooms.list c.in_ok-copy.copy) c.score_of-score.result c.requires.same c.in_ok-copy.ensures.0 c.in_ok-copy.ensures.1
          (holds c.may_propose.result (IsProposal j c.args.aim w.pins w.most_changes start t) c.may_propose.ensures c.if-not-may_propose.false) c.score_of-score.ensures.value c.score_of-score.ensures.small;
    }
