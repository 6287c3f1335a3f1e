-- Which edit of a draft is undone next, and by which edit.
use Rattle.std.specs.Prelude.{◌-◌, Bool, false, cond, ◌&&◌, ◌==◌, List, [], ◌∷◌, ◌++◌, length, take, Option, Some, None, slice_get}
use Rattle.std.specs.Option.{option_map, option_to_list}
use Rattle.ctt_problem.specs.Problem.{Problem}
use Rattle.ctt_problem.specs.declared.placed.Placed.{Placed}
use Rattle.ctt_board.specs.Changes.{room_at}
use Rattle.ctt_edits.specs.Edits.{edit_fault}
use Rattle.ctt_edits.specs.declared.call.Call.{Call}
use Rattle.ctt_edits.specs.declared.call.Call.TheVariants.{Look as Looks, Edit as Edits}
use Rattle.ctt_edits.specs.declared.edit.Edit.{Edit}
use Rattle.ctt_edits.specs.declared.edit.Edit.TheVariants.{Place, Move, Swap, Reroom, Drop}
use Rattle.ctt_edits.specs.declared.fault.EditFault.{EditFault}
use Rattle.ctt_edits.specs.declared.reply.Reply.{Reply}
use Rattle.ctt_edits.specs.declared.reply.Reply.TheVariants.{Done}
use Rattle.ctt_draft.specs.Drafts.{after_call}
use Rattle.ctt_draft.specs.declared.asked.Asked.{Asked}

-- the edit, if the call is one that was accepted
abbrev pub done_by : Call → Reply → Option Edit
done_by (Edits e) Done = Some e
done_by _ _ = None

-- the same of a call with its reply
abbrev pub done_edit : Asked → Option Edit
done_edit a = done_by a.call a.reply

-- the accepted edits of calls, in order
abbrev pub edits_done : List Asked → List Edit
edits_done [] = []
edits_done (a ∷ asked) = option_to_list (done_edit a) ++ edits_done asked

-- the edits are equal
abbrev pub same_edit : Edit → Edit → Bool
same_edit (Place c s r) (Place d s2 r2) = c == d && (s == s2 && r == r2)
same_edit (Move c s t r) (Move d s2 t2 r2) = c == d && (s == s2 && (t == t2 && r == r2))
same_edit (Swap c s d t) (Swap c2 s2 d2 t2) = c == c2 && (s == s2 && (d == d2 && t == t2))
same_edit (Reroom c s r) (Reroom d s2 r2) = c == d && (s == s2 && r == r2)
same_edit (Drop c s) (Drop d s2) = c == d && s == s2
same_edit _ _ = false

-- the edit that undoes an edit made on t; none if it would have to restore a room that t does not
-- have
abbrev pub inverse : List Placed → Edit → Option Edit
inverse t (Place c s r) = Some (Drop c s)
inverse t (Move c s s2 r) = option_map (λ old. Move c s2 s old) (room_at c s t)
inverse t (Swap c s d s2) = Some (Swap c s2 d s)
inverse t (Reroom c s r) = option_map (λ old. Reroom c s old) (room_at c s t)
inverse t (Drop c s) = option_map (λ old. Place c s old) (room_at c s t)

-- the top of the stack, which is its last element, if any
abbrev pub top : List Edit → Option Edit
top stack = slice_get stack (length stack - 1)

-- there is such an edit, and it equals e
abbrev pub is_given : Edit → Option Edit → Bool
is_given e None = false
is_given e (Some u) = same_edit u e

-- the stack of inverses after an accepted edit: an edit that equals the top pops it, any other
-- pushes its inverse
abbrev pub stacked : Edit → Option Edit → List Edit → List Edit
stacked e inverse stack = cond (is_given e (top stack)) (take (length stack - 1) stack) (stack ++ option_to_list inverse)

-- the new stack if the edit has no fault, else the old one
abbrev pub stacked_if : Option EditFault → List Edit → List Edit → List Edit
stacked_if None stack old = stack
stacked_if (Some f) stack old = old

-- the stack of inverses after any call made on t
abbrev pub stack_after : Problem → List Placed → Call → List Edit → List Edit
stack_after i t (Looks look) stack = stack
stack_after i t (Edits e) stack = stacked_if (edit_fault i t e) (stacked e (inverse t e) stack) stack

-- the stack of inverses after calls made on t in order
abbrev pub stack_of : Problem → List Placed → List Call → List Edit → List Edit
stack_of i t [] stack = stack
stack_of i t (call ∷ calls) stack = stack_of i (after_call i t call) calls (stack_after i t call stack)

-- the edit that undoes the last accepted edit of these calls that is not undone yet, if any
abbrev pub undoing : Problem → List Placed → List Call → Option Edit
undoing i base calls = top (stack_of i base calls [])
