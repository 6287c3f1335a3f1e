use Rattle.std.proofs.Common.{rules, ◌≡◌, ◌∙◌, List, ℕ, ap}
use Rattle.std.specs.List.{AllByRecursion as Each}
use Rattle.ctt_problem.specs.Problem.{Problem}
use Rattle.ctt_problem.specs.declared.placed.Placed.{Placed}
use Rattle.ctt_edits.specs.Candidates.{from_to, first_choices, second_choices, edits_by, n_cheapest}
use Rattle.ctt_edits.specs.Edits.{EditFits}
use Rattle.ctt_edits.specs.Patterns.{feasible}
use Rattle.ctt_edits.proofs.CheapestLemmas.{choices_fit, cheapest_is}
use Rattle.ctt_edits.proofs.cheapest.cheapest.Goals as goal

pub add_edits-requires : goal.add_edits-requires
add_edits-requires g c κs =
    let i : Problem = g.S.Rooms.problem c.args.sheet.now in
    let xs : List ℕ = from_to c.first_choices-firsts.result.start c.first_choices-firsts.result.end in
    let ys : List ℕ = from_to c.second_choices-seconds.result.start c.second_choices-seconds.result.end in
    let first : xs ≡ first_choices i c.args.pattern.now = c.first_choices-firsts.ensures ∙ ap (λ j. first_choices j c.args.pattern.now) c.instance-instance.ensures in
    let second : ys ≡ second_choices i c.args.pattern.now = c.second_choices-seconds.ensures ∙ ap (λ j. second_choices j c.args.pattern.now) c.instance-instance.ensures in
    let fits : Each (EditFits i) (edits_by c.args.pattern.now xs ys) = choices_fit i c.args.pattern.now xs ys c.requires first second in
    search rules

pub returns : goal.returns
returns g c =
    let i : Problem = g.S.Rooms.problem c.args.sheet.now in
    let t : List Placed = g.S.Rooms.list c.args.sheet.now in
    let xs : List ℕ = from_to c.first_choices-firsts.result.start c.first_choices-firsts.result.end in
    let ys : List ℕ = from_to c.second_choices-seconds.result.start c.second_choices-seconds.result.end in
    let first : xs ≡ first_choices i c.args.pattern.now = c.first_choices-firsts.ensures ∙ ap (λ j. first_choices j c.args.pattern.now) c.instance-instance.ensures in
    let second : ys ≡ second_choices i c.args.pattern.now = c.second_choices-seconds.ensures ∙ ap (λ j. second_choices j c.args.pattern.now) c.instance-instance.ensures in
    c.new.ensures ∙ cheapest_is i t c.args.count c.args.pattern.now c.add_edits.new.list.items xs ys first second (c.in_ok-add_edits.ensures ∙ ap (λ ls. n_cheapest c.args.count ls (feasible i t (edits_by c.args.pattern.now xs ys))) c.new-list.ensures.items)
