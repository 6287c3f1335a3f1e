use Rattle.std.proofs.Common.{rules, ◌∙◌, ◌+◌, List, ℕ, subst}
use Rattle.std.specs.List.{AllByRecursion as Each}
use Rattle.ctt_problem.specs.Problem.{Problem}
use Rattle.ctt_problem.proofs.ListLaws.{Each-front, Each-rest}
use Rattle.ctt_problem.specs.declared.placed.Placed.{Placed}
use Rattle.ctt_edits.specs.Candidates.{from_to, edits_with, edits_by}
use Rattle.ctt_edits.specs.Edits.{EditFits}
use Rattle.ctt_edits.specs.declared.edit.Edit.{Edit}
use Rattle.ctt_edits.proofs.CheapestLemmas.{by_more, n_cheapest_parts}
use Rattle.ctt_edits.proofs.cheapest.add_edits.Goals as goal

pub add_edits_with-requires : goal.add_edits_with-requires
add_edits_with-requires g c κs =
    let i : Problem = g.S.Rooms.problem c.args.sheet.now in
    let ys : List ℕ = from_to c.args.seconds.now.start c.args.seconds.now.end in
    let rest : List Edit = edits_by c.args.pattern.now (from_to (c.loop-first.first + 1) c.args.firsts.now.end) ys in
    let more = by_more c.args.pattern.now ys c.loop-first.first c.args.firsts.now.end c.loop-first-test.true in
    let fits : Each (EditFits i) (edits_with c.args.pattern.now ys c.loop-first.first) = Each-front (EditFits i) (edits_with c.args.pattern.now ys c.loop-first.first) rest (subst (Each (EditFits i)) more c.loop-first.invariant.1) in
    search rules

pub loop-first-preserved : goal.loop-first-preserved
loop-first-preserved g c =
    let i : Problem = g.S.Rooms.problem c.args.sheet.now in
    let t : List Placed = g.S.Rooms.list c.args.sheet.now in
    let ys : List ℕ = from_to c.args.seconds.now.start c.args.seconds.now.end in
    let here : List Edit = edits_with c.args.pattern.now ys c.loop-first.first in
    let rest : List Edit = edits_by c.args.pattern.now (from_to (c.loop-first.first + 1) c.args.firsts.now.end) ys in
    let more = by_more c.args.pattern.now ys c.loop-first.first c.args.firsts.now.end c.loop-first-test.true in (
      n_cheapest_parts i t c.args.count c.loop-first.list.items c.add_edits_with.new.list.items _ here rest more c.in_ok-add_edits_with.ensures ∙ c.loop-first.invariant.0,
      Each-rest (EditFits i) here rest (subst (Each (EditFits i)) more c.loop-first.invariant.1),
    )
