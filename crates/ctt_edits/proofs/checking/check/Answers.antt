use Rattle.std.proofs.Common.{rules, ◌≡◌, None, List, sym, ap, subst, ◌∙◌, Ok}
use Rattle.ctt_problem.specs.Problem.{Problem}
use Rattle.ctt_problem.specs.declared.placed.Placed.{Placed}
use Rattle.ctt_board.specs.Changes.{ChangeFits}
use Rattle.ctt_edits.specs.Edits.{edit_fault, change, checked_by}
use Rattle.ctt_edits.proofs.checking.check.Goals as goal

pub change_of-requires : goal.change_of-requires
change_of-requires g c κs =
    let none : edit_fault (g.S.Rooms.problem c.args.sheet.now) (g.S.Rooms.list c.args.sheet.now) c.args.edit.now ≡ None = sym c.fault_of.ensures ∙ c.in-None.is in
    let fits = c.requires in
    search rules

pub returns-in-None-clause-change : goal.returns-in-None-clause-change
returns-in-None-clause-change g c =
    let i : Problem = g.S.Rooms.problem c.args.sheet.now in
    let t : List Placed = g.S.Rooms.list c.args.sheet.now in
    let none : edit_fault i t c.args.edit.now ≡ None = sym c.fault_of.ensures ∙ c.in-None.is in
    ap Ok c.change_of.ensures ∙ sym (ap (λ f. checked_by f (change t c.args.edit.now)) none)

pub returns-in-None-clause-fits : goal.returns-in-None-clause-fits
returns-in-None-clause-fits g c =
    let i : Problem = g.S.Rooms.problem c.args.sheet.now in
    let t : List Placed = g.S.Rooms.list c.args.sheet.now in
    let none : edit_fault i t c.args.edit.now ≡ None = sym c.fault_of.ensures ∙ c.in-None.is in
    subst (λ cells. ChangeFits i cells t) (sym c.change_of.ensures) (c.edits_fit.ensures i t c.args.edit.now c.lawful.ensures c.requires none)
