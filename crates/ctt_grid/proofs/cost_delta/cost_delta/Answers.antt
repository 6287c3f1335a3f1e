use Rattle.std.proofs.Common.{rules, ◌≡◌, ◌∙◌, sum_by, refl, sym, ap, subst}
use Rattle.std.specs.List.{AllByRecursion as Each}
use Rattle.ctt_problem.specs.Belonging.{curricula_of}
use Rattle.ctt_rules.specs.Penalty.{unseated}
use Rattle.ctt_grid.specs.CostDelta.{stands_alone, alone_beside}
use Rattle.ctt_grid.specs.Seen.{seen_curriculum}
use Rattle.ctt_grid.proofs.cost_delta.cost_delta.Goals as goal

pub compactness_delta-delta-requires-clause-own : goal.compactness_delta-delta-requires-clause-own
compactness_delta-delta-requires-clause-own c = subst (Each (λ q. seen_curriculum c.args.instance.now c.args.counts.now q c.args.lecture.now.slot ≡ 0)) (sym c.curricula_of-curricula.ensures.exact) c.requires.own

pub returns-clause-value : goal.returns-clause-value
returns-clause-value c =
    let i = c.args.instance.now in
    let l = c.args.lecture.now in
    let seats : c.from.result ≡ unseated i l = search rules in
    let alone : c.compactness_delta-delta.result.alone ≡ sum_by (λ q. stands_alone i (seen_curriculum i c.args.counts.now q) l.slot) (curricula_of i l.course) = c.compactness_delta-delta.ensures.alone ∙ ap (sum_by (λ q. stands_alone i (seen_curriculum i c.args.counts.now q) l.slot)) c.curricula_of-curricula.ensures.exact in
    let lone_neighbours : c.compactness_delta-delta.result.lone_neighbours ≡ sum_by (λ q. alone_beside i (seen_curriculum i c.args.counts.now q) l.slot) (curricula_of i l.course) = c.compactness_delta-delta.ensures.lone_neighbours ∙ ap (sum_by (λ q. alone_beside i (seen_curriculum i c.args.counts.now q) l.slot)) c.curricula_of-curricula.ensures.exact in
    rw (seats, c.missing_day.ensures.value, alone, lone_neighbours, c.further_room.ensures.value) refl
