-- Replaying changes up to the first that does not fit, and the changes of a draft.
use Rattle.std.proofs.Common.{◌≡◌, ◌||◌, ◌==◌, leb, length, false, ℕ, true, List, [], ◌∷◌, Option, Some, None, is_some, is_none, refl, ap, ◌∙◌, sym}
use Rattle.std.specs.List.{AllByRecursion as Each}
use Rattle.std.proofs.lemmas.Bool.{true≢false, and_parts, or_parts}
use Rattle.ctt_problem.proofs.TableLemmas.{bool_case}
use Rattle.ctt_problem.proofs.TimetableLemmas.{Each-append}
use Rattle.ctt_problem.specs.Problem.{Problem}
use Rattle.ctt_problem.specs.declared.placed.Placed.{Placed}
use Rattle.ctt_problem.specs.Timetable.{without}
use Rattle.ctt_board.specs.Changes.{ChangeFits, apply, apply_at, cell, is_change, in_turn, room_at}
use Rattle.ctt_board.specs.Fitting.{fits}
use Rattle.ctt_board.specs.declared.cell.Cell.{Cell}
use Rattle.ctt_board.proofs.FitLemmas.{fits_as_tested}
use Rattle.ctt_edits.specs.Calls.{cells_of_call, cells_if}
use Rattle.ctt_edits.specs.Edits.{or_else, fault_if, try_room_of, edit_fault, change}
use Rattle.ctt_edits.specs.declared.call.Call.{Call}
use Rattle.ctt_edits.specs.declared.call.Call.TheVariants.{Look as Looks, Edit as Edits}
use Rattle.ctt_edits.specs.declared.edit.Edit.{Edit}
use Rattle.ctt_edits.specs.declared.edit.Edit.TheVariants.{Place, Move, Swap, Reroom, Drop}
use Rattle.ctt_edits.specs.declared.fault.EditFault.{EditFault}
use Rattle.ctt_edits.specs.declared.fault.EditFault.TheVariants.{NotPlaced, SameCourse}
use Rattle.ctt_edits.proofs.EditLemmas.{is_there}
use Rattle.ctt_edits.proofs.FaultLemmas.{fault_if_none, or_else_none}
use Rattle.ctt_draft.specs.Drafts.{after_call, made, changes}
use Rattle.ctt_draft.specs.Replays.{replayed, all_fit, ReplayStops, ReplayIsSettling, DraftReplays}
use Rattle.ctt_draft.proofs.CallRuns.{made_edit}
use Rattle.ctt_draft.proofs.FrameLemmas.{draft_frame, settling_fits}

-- the loop invariant of a replay on t: the rest of the changes is still to be made, on u
pub record Replaying (i j : Problem) (t u : List Placed) (all rest : List (List Cell)) : Type 0 where
  pub same : j ≡ i
  pub ends : replayed j rest u ≡ replayed i all t
  pub decides : all_fit j rest u ≡ all_fit i all t

pub turn_of : (x : List Cell) → is_change x ≡ true → in_turn false x ≡ true
turn_of x h = (and_parts (leb (length x) 4) (in_turn false x) h).1

pub replay_is_settling : ReplayIsSettling
replay_is_settling i [] t h are fit = (refl, refl)
replay_is_settling i (x ∷ xs) t h are fit =
    let yes : fits i x t ≡ true = (fits_as_tested i x t h (turn_of x are.0)).1 fit.0 in
    rw yes (replay_is_settling i xs (apply x t) fit.0.lawful are.1 fit.1)

pub replay_stops : ReplayStops
replay_stops i [] t h are = record { first = []; rest = []; parts = refl; fit = tt; leaves = refl; end = refl }
replay_stops i (x ∷ xs) t h are = bool_case _ (fits i x t)
    (λ yes.
    let fit : ChangeFits i x t = (fits_as_tested i x t h (turn_of x are.0)).0 yes in
    let on = replay_stops i xs (apply x t) fit.lawful are.1 in
    rw yes (record { first = x ∷ on.first; rest = on.rest; parts = ap (λ r. x ∷ r) on.parts; fit = (fit, on.fit); leaves = on.leaves; end = on.end }))
    (λ no. rw no (record { first = []; rest = x ∷ xs; parts = refl; fit = tt; leaves = refl; end = (refl, λ fit. true≢false (sym ((fits_as_tested i x t h (turn_of x are.0)).1 fit) ∙ no)) }))

-- the cells of an edit form a change: at most four, removals before additions
swapped : (c s d s2 : ℕ) (o p : Option ℕ) → is_some o ≡ true → is_some p ≡ true → is_change (cell c s None ∷ cell d s2 None ∷ cell c s2 o ∷ cell d s p ∷ []) ≡ true
swapped c s d s2 None p there other = cc
swapped c s d s2 (Some r) None there other = cc
swapped c s d s2 (Some r) (Some q) there other = refl

edit_is_change : (i : Problem) (t : List Placed) (e : Edit) → edit_fault i t e ≡ None → is_change (change t e) ≡ true
edit_is_change i t (Place c s r) k = refl
edit_is_change i t (Move c s s2 r) k = refl
edit_is_change i t (Swap c s d s2) k =
    let first : Option EditFault = try_room_of i (without d s2 (without c s t)) c s2 (room_at d s2 t) in
    let second : Option EditFault = try_room_of i (apply_at c s2 (room_at d s2 t) (without d s2 (without c s t))) d s (room_at c s t) in
    let e1 = or_else_none (fault_if (is_none (room_at c s t) || is_none (room_at d s2 t)) NotPlaced) (or_else (fault_if (c == d) SameCourse) (or_else first second)) k in
    let both = or_parts (is_none (room_at c s t)) (is_none (room_at d s2 t)) (fault_if_none (is_none (room_at c s t) || is_none (room_at d s2 t)) NotPlaced e1.0) in
    swapped c s d s2 (room_at d s2 t) (room_at c s t) (is_there (room_at d s2 t) both.1) (is_there (room_at c s t) both.0)
edit_is_change i t (Reroom c s r) k = refl
edit_is_change i t (Drop c s) k = refl

change_if : (i : Problem) (t : List Placed) (e : Edit) (o : Option EditFault) → edit_fault i t e ≡ o → Each (λ x. is_change x ≡ true) (made (cells_if o (change t e)))
change_if i t e None k = rw (made_edit t e) (edit_is_change i t e k, tt)
change_if i t e (Some fault) k = tt

call_is_change : (i : Problem) (t : List Placed) (call : Call) → Each (λ x. is_change x ≡ true) (made (cells_of_call i t call))
call_is_change i t (Looks look) = tt
call_is_change i t (Edits e) = change_if i t e (edit_fault i t e) refl

pub are_changes : (i : Problem) (t : List Placed) (calls : List Call) → Each (λ x. is_change x ≡ true) (changes i t calls)
are_changes i t [] = tt
are_changes i t (call ∷ calls) = Each-append (λ x. is_change x ≡ true) (made (cells_of_call i t call)) (changes i (after_call i t call) calls) (call_is_change i t call) (are_changes i (after_call i t call) calls)

pub draft_replays : DraftReplays
draft_replays i base now calls h k f fresh =
    (replay_is_settling i (changes i base calls) now k (are_changes i base calls) (settling_fits i base now calls h k f fresh)).0
    ∙ sym (draft_frame i base now calls h k f fresh).left
