use Rattle.std.proofs.Common.{rules, ◌∙◌, ◌+◌, ◌∷◌, [], ◌++◌, List, sym, ap, subst}
use Rattle.std.specs.List.{AllByRecursion as Each}
use Rattle.ctt_problem.specs.Problem.{Problem}
use Rattle.ctt_problem.specs.declared.placed.Placed.{Placed}
use Rattle.ctt_edits.specs.Candidates.{from_to, edit_by, edits_with, n_cheapest}
use Rattle.ctt_edits.specs.Edits.{EditFits}
use Rattle.ctt_edits.specs.Patterns.{feasible}
use Rattle.ctt_edits.specs.declared.edit.Edit.{Edit}
use Rattle.ctt_edits.proofs.CheapestLemmas.{with_more, n_cheapest_parts}
use Rattle.ctt_edits.proofs.cheapest.add_edits_with.Goals as goal

pub add_edit-requires : goal.add_edit-requires
add_edit-requires g c κs =
    let i : Problem = g.S.Rooms.problem c.args.sheet.now in
    let more = with_more c.args.pattern.now c.args.first c.loop-second.second c.args.seconds.now.end c.loop-second-test.true in
    let all : Each (EditFits i) (edit_by c.args.pattern.now c.args.first c.loop-second.second ∷ edits_with c.args.pattern.now (from_to (c.loop-second.second + 1) c.args.seconds.now.end) c.args.first) = subst (Each (EditFits i)) more c.loop-second.invariant.1 in
    let fits : EditFits i c.edit.result = subst (EditFits i) (sym c.edit.ensures) all.0 in
    search rules

pub loop-second-preserved : goal.loop-second-preserved
loop-second-preserved g c =
    let i : Problem = g.S.Rooms.problem c.args.sheet.now in
    let t : List Placed = g.S.Rooms.list c.args.sheet.now in
    let rest : List Edit = edits_with c.args.pattern.now (from_to (c.loop-second.second + 1) c.args.seconds.now.end) c.args.first in
    let more = with_more c.args.pattern.now c.args.first c.loop-second.second c.args.seconds.now.end c.loop-second-test.true in
    let all : Each (EditFits i) ((edit_by c.args.pattern.now c.args.first c.loop-second.second ∷ []) ++ rest) = subst (Each (EditFits i)) more c.loop-second.invariant.1 in (
      n_cheapest_parts i t c.args.count c.loop-second.list.items c.add_edit.new.list.items _ (edit_by c.args.pattern.now c.args.first c.loop-second.second ∷ []) rest more (c.in_ok-add_edit.ensures ∙ ap (λ e. n_cheapest c.args.count c.loop-second.list.items (feasible i t (e ∷ []))) c.edit.ensures) ∙ c.loop-second.invariant.0,
      all.1,
    )
