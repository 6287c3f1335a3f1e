-- The result of checking an edit: its fault, or its change.
use Rattle.std.proofs.Common.{◌≡◌, List, [], Option, Some, None, Result, Ok, Err, refl, ◌∙◌, sym, ap, ap₂}
use Rattle.ctt_problem.specs.Problem.{Problem}
use Rattle.ctt_problem.specs.declared.placed.Placed.{Placed}
use Rattle.ctt_board.specs.declared.cell.Cell.{Cell}
use Rattle.ctt_edits.specs.Calls.{reply, cells_of_call, cells_if}
use Rattle.ctt_edits.specs.Edits.{edit_fault, change, checked, checked_by}
use Rattle.ctt_edits.specs.Looks.{told_or}
use Rattle.ctt_edits.specs.declared.call.Call.TheVariants.{Edit as Edits}
use Rattle.ctt_edits.specs.declared.edit.Edit.{Edit}
use Rattle.ctt_edits.specs.declared.fault.EditFault.{EditFault}
use Rattle.ctt_edits.specs.declared.reply.Reply.TheVariants.{Done, Refused}

ok_is : (o : Option EditFault) (cells got : List Cell) → ◌≡◌ {A = Result (List Cell) EditFault} (Ok got) (checked_by o cells) → (o ≡ None) × (got ≡ cells)
ok_is None cells got e = (refl, cc)
ok_is (Some f) cells got e = cc

err_is : (o : Option EditFault) (cells : List Cell) (f : EditFault) → ◌≡◌ {A = Result (List Cell) EditFault} (Err f) (checked_by o cells) → o ≡ Some f
err_is None cells f e = cc
err_is (Some g) cells f e = cc

-- an edit that passes the check has no fault, and this is its change
pub accepted : (i k : Problem) (t u : List Placed) (e : Edit) (got : List Cell) → ◌≡◌ {A = Result (List Cell) EditFault} (Ok got) (checked k u e) → k ≡ i → u ≡ t → (edit_fault i t e ≡ None) × (got ≡ change t e)
accepted i k t u e got is same list =
    let h : (edit_fault k u e ≡ None) × (got ≡ change u e) = ok_is (edit_fault k u e) (change u e) got is in
    (ap₂ (λ p x. edit_fault p x e) (sym same) (sym list) ∙ h.0, h.1 ∙ ap (λ x. change x e) list)

-- an edit that does not pass is refused with its fault, and changes nothing
pub refused : (i k : Problem) (t u : List Placed) (e : Edit) (f : EditFault) → ◌≡◌ {A = Result (List Cell) EditFault} (Err f) (checked k u e) → k ≡ i → u ≡ t → (Refused f ≡ reply i t (Edits e)) × (cells_of_call i t (Edits e) ≡ [])
refused i k t u e f is same list =
    let h : edit_fault i t e ≡ Some f = ap₂ (λ p x. edit_fault p x e) (sym same) (sym list) ∙ err_is (edit_fault k u e) (change u e) f is in
    (sym (ap (λ o. told_or o Done) h), ap (λ o. cells_if o (change t e)) h)

pub done : (i : Problem) (t : List Placed) (e : Edit) → edit_fault i t e ≡ None → Done ≡ reply i t (Edits e)
done i t e h = sym (ap (λ o. told_or o Done) h)
