use Rattle.std.proofs.Common.{rules, ◌≡◌, ◌<◌, ℕ, true, subst}
use Rattle.ctt_problem.specs.BitRows.{HasSize, is_marked_in}
use Rattle.ctt_problem.specs.Problem.{Problem, course_count, slot_count}
use Rattle.ctt_search.proofs.asking.place.Goals as goal

pub search-requires : goal.search-requires
search-requires g c κs =
    let i : Problem = g.S.Rooms.problem c.args.start.now in
    let size : HasSize c.in_ok-pins.pins (slot_count i) (course_count i) = subst (λ (j : Problem). HasSize c.in_ok-pins.pins (slot_count j) (course_count j)) c.instance.ensures c.in_ok-pins.ensures.size in
    search rules

pub returns-clause-problem : goal.returns-clause-problem
returns-clause-problem g c = c.in_ok-found.ensures.found.same

pub returns-clause-lawful : goal.returns-clause-lawful
returns-clause-lawful g c = c.in_ok-found.ensures.found.proposal.lawful

pub returns-clause-worth : goal.returns-clause-worth
returns-clause-worth g c = c.in_ok-found.ensures.found.proposal.no_worse

pub returns-clause-few : goal.returns-clause-few
returns-clause-few g c = c.in_ok-found.ensures.found.proposal.few

pub returns-clause-score : goal.returns-clause-score
returns-clause-score g c = c.in_ok-found.ensures.found.scored

pub returns-clause-kept : goal.returns-clause-kept
returns-clause-kept g c =
    let i : Problem = g.S.Rooms.problem c.args.start.now in
    let all : (k s : ℕ) → k < course_count i → s < slot_count i → is_marked_in c.in_ok-pins.pins s k ≡ true =
    subst (λ (j : Problem). (k s : ℕ) → k < course_count j → s < slot_count j → is_marked_in c.in_ok-pins.pins s k ≡ true) c.instance.ensures c.in_ok-pins.ensures.all in
    λ k s r lt ls there. c.in_ok-found.ensures.found.proposal.pinned k lt s ls r (all k s lt ls) there
