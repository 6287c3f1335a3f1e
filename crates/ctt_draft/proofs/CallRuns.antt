-- Calls made in order: they leave a lawful timetable, and their changes fit; also the step of one
-- more call.
use Rattle.std.proofs.Common.{◌≡◌, List, [], ◌∷◌, ◌++◌, Option, Some, None, refl, append-nil, append_assoc, ◌∙◌, sym, ap}
use Rattle.std.specs.List.{AllByRecursion as Each}
use Rattle.ctt_problem.specs.Problem.{Problem}
use Rattle.ctt_problem.specs.declared.placed.Placed.{Placed}
use Rattle.ctt_rules.specs.Hard.{Lawful}
use Rattle.ctt_board.specs.Changes.{apply, apply_all, ChangesFit}
use Rattle.ctt_board.specs.declared.cell.Cell.{Cell}
use Rattle.ctt_edits.specs.Calls.{CallFits, reply, cells_of_call, cells_if}
use Rattle.ctt_edits.specs.Edits.{EditFits, edit_fault, change}
use Rattle.ctt_edits.specs.declared.call.Call.{Call}
use Rattle.ctt_edits.specs.declared.call.Call.TheVariants.{Look as Looks, Edit as Edits}
use Rattle.ctt_edits.specs.declared.edit.Edit.{Edit}
use Rattle.ctt_edits.specs.declared.edit.Edit.TheVariants.{Place, Move, Swap, Reroom, Drop}
use Rattle.ctt_edits.specs.declared.fault.EditFault.{EditFault}
use Rattle.ctt_edits.proofs.EditLemmas.{edits_keep_lawful, edits_fit}
use Rattle.ctt_draft.specs.Drafts.{after_call, replies, whole, made, changes}

-- a call leaves a lawful timetable lawful
lawful_if : (i : Problem) (t : List Placed) (e : Edit) (o : Option EditFault) → edit_fault i t e ≡ o → Lawful i t → EditFits i e → Lawful i (apply (cells_if o (change t e)) t)
lawful_if i t e None k h f = edits_keep_lawful i t e h f k
lawful_if i t e (Some fault) k h f = h

pub lawful_after_call : (i : Problem) (t : List Placed) (call : Call) → Lawful i t → CallFits i call → Lawful i (after_call i t call)
lawful_after_call i t (Looks look) h f = h
lawful_after_call i t (Edits e) h f = lawful_if i t e (edit_fault i t e) refl h f

pub lawful_whole : (i : Problem) (t : List Placed) (calls : List Call) → Lawful i t → Each (CallFits i) calls → Lawful i (whole i t calls)
lawful_whole i t [] h f = h
lawful_whole i t (call ∷ calls) h f = lawful_whole i (after_call i t call) calls (lawful_after_call i t call h f.0) f.1

-- the timetable after the calls is the one before with their changes made
pub made_all : (cells : List Cell) (t : List Placed) → apply_all (made cells) t ≡ apply cells t
made_all [] t = refl
made_all (x ∷ xs) t = refl

pub apply_all-append : (xs ys : List (List Cell)) (t : List Placed) → apply_all (xs ++ ys) t ≡ apply_all ys (apply_all xs t)
apply_all-append [] ys t = refl
apply_all-append (x ∷ xs) ys t = apply_all-append xs ys (apply x t)

pub whole_is : (i : Problem) (calls : List Call) (t : List Placed) → whole i t calls ≡ apply_all (changes i t calls) t
whole_is i [] t = refl
whole_is i (call ∷ calls) t =
    whole_is i calls (after_call i t call)
    ∙ ap (apply_all (changes i (after_call i t call) calls)) (sym (made_all (cells_of_call i t call) t))
    ∙ sym (apply_all-append (made (cells_of_call i t call)) (changes i (after_call i t call) calls) t)

-- an edit changes something
pub made_edit : (t : List Placed) (e : Edit) → made (change t e) ≡ change t e ∷ []
made_edit t (Place c s r) = refl
made_edit t (Move c s s2 r) = refl
made_edit t (Swap c s d s2) = refl
made_edit t (Reroom c s r) = refl
made_edit t (Drop c s) = refl

-- the changes fit where they are made
pub ChangesFit-append : (i : Problem) (xs ys : List (List Cell)) (t : List Placed) → ChangesFit i xs t → ChangesFit i ys (apply_all xs t) → ChangesFit i (xs ++ ys) t
ChangesFit-append i [] ys t h k = k
ChangesFit-append i (x ∷ xs) ys t h k = (h.0, ChangesFit-append i xs ys (apply x t) h.1 k)

fits_if : (i : Problem) (t : List Placed) (e : Edit) (o : Option EditFault) → edit_fault i t e ≡ o → Lawful i t → EditFits i e → ChangesFit i (made (cells_if o (change t e))) t
fits_if i t e None k h f = rw (made_edit t e) (edits_fit i t e h f k, tt)
fits_if i t e (Some fault) k h f = tt

call_fits : (i : Problem) (t : List Placed) (call : Call) → Lawful i t → CallFits i call → ChangesFit i (made (cells_of_call i t call)) t
call_fits i t (Looks look) h f = tt
call_fits i t (Edits e) h f = fits_if i t e (edit_fault i t e) refl h f

pub changes_fit : (i : Problem) (t : List Placed) (calls : List Call) → Lawful i t → Each (CallFits i) calls → ChangesFit i (changes i t calls) t
changes_fit i t [] h f = tt
changes_fit i t (call ∷ calls) h f =
    ChangesFit-append i (made (cells_of_call i t call)) (changes i (after_call i t call) calls) t (call_fits i t call h f.0)
    (rw (made_all (cells_of_call i t call) t) (changes_fit i (after_call i t call) calls (lawful_after_call i t call h f.0) f.1))

-- one more call
pub replies-push : (i : Problem) (t : List Placed) (calls : List Call) (call : Call) → replies i t (calls ++ call ∷ []) ≡ replies i t calls ++ reply i (whole i t calls) call ∷ []
replies-push i t [] call = refl
replies-push i t (x ∷ xs) call = ap (λ rs. reply i t x ∷ rs) (replies-push i (after_call i t x) xs call)

pub whole-push : (i : Problem) (t : List Placed) (calls : List Call) (call : Call) → whole i t (calls ++ call ∷ []) ≡ after_call i (whole i t calls) call
whole-push i t [] call = refl
whole-push i t (x ∷ xs) call = whole-push i (after_call i t x) xs call

pub changes-push : (i : Problem) (t : List Placed) (calls : List Call) (call : Call) → changes i t (calls ++ call ∷ []) ≡ changes i t calls ++ made (cells_of_call i (whole i t calls) call)
changes-push i t [] call = append-nil (made (cells_of_call i t call))
changes-push i t (x ∷ xs) call =
    ap (λ rest. made (cells_of_call i t x) ++ rest) (changes-push i (after_call i t x) xs call)
    ∙ sym (append_assoc (made (cells_of_call i t x)) (changes i (after_call i t x) xs) (made (cells_of_call i (whole i (after_call i t x) xs) call)))
