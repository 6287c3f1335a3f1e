use Rattle.std.proofs.Common.{◌≡◌, ◌∙◌, ◌++◌, [], ap, refl, rules, subst, sym}
use Rattle.std.proofs.lemmas.Result.{on_ok_weaker}
use Rattle.std.specs.List.{AllByRecursion as Each}
use Rattle.ctt_core.specs.declared.answer.Answer.TheVariants.{NoMemory}
use Rattle.ctt_seat.specs.declared.seat.SeatAnswer.TheVariants.{Answer as Answered}
use Rattle.ctt_desk.specs.Planners.{IsOpen}
use Rattle.ctt_draft.specs.Drafts.{AskedFits}
use Rattle.ctt_office.specs.SeatAnswers.{told_line}
use Rattle.ctt_office.proofs.RedoLemmas.{wanted}
use Rattle.ctt_office.proofs.redoing.redo_calls.Goals as goal

pub redo_in-requires : goal.redo_in-requires
redo_in-requires g c κs =
    let fits : Each (AskedFits c.args.instance.now) c.as_slice.result.now = subst (Each (AskedFits c.args.instance.now)) (sym c.as_slice.ensures) c.requires.fits in
    let opened : IsOpen g.J.Naming.problem g.J.Naming.opening c.args.planner c.in-Ok.drafting = c.in-Ok.ensures.ok in
    let new : c.in-Ok.drafting.asked ≡ [] = opened.asked in
    search rules

pub returns-in-Err-redo_in-clause-answered : goal.returns-in-Err-redo_in-clause-answered
returns-in-Err-redo_in-clause-answered g c =
    let i = c.args.instance.now in
    let told = told_line i (Answered NoMemory) in
    let opened = subst (λ p. IsOpen p g.J.Naming.opening c.args.planner c.in-Ok.drafting) c.requires.same c.in-Ok.ensures.ok in
    let calls = wanted i g.J.Naming.opening c.args.planner c.args.asked c.in-Ok.drafting c.abandon.result _ told opened (c.abandon.ensures ∙ c.redo_in.ensures.planner) refl refl refl in
    on_ok_weaker c.write_no_memory.result (λ grown. (told, calls, grown ∙ ap (λ bs. bs ++ told) c.in-Err-redo_in.ensures.kept)) c.write_no_memory.ensures
