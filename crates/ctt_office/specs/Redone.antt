-- Edits that are redone, and the edit that is undone.
use Rattle.std.specs.Prelude.{ℕ, ◌+◌, ◌≡◌, Bool, true, false, List, [], ◌∷◌, ◌++◌, length, flat_map, codes, Option, Some, None}
use Rattle.std.specs.Fmt.{decimal}
use Rattle.ctt_problem.specs.Problem.{Problem}
use Rattle.ctt_problem.specs.declared.placed.Placed.{Placed}
use Rattle.ctt_edits.specs.Edits.{edit_fault, edited}
use Rattle.ctt_edits.specs.declared.call.Call.TheVariants.{Edit as Edits}
use Rattle.ctt_edits.specs.declared.edit.Edit.{Edit}
use Rattle.ctt_edits.specs.declared.fault.EditFault.{EditFault}
use Rattle.ctt_edits.specs.declared.reply.Reply.{Reply}
use Rattle.ctt_edits.specs.declared.reply.Reply.TheVariants.{Done, Refused}
use Rattle.ctt_draft.specs.declared.asked.Asked.{Asked}
use Rattle.ctt_desk.specs.Planners.{DraftingValue, asked_also, present_of}
use Rattle.ctt_line.specs.Lines.{line, words_part}
use Rattle.ctt_script.specs.WrittenWords.{edit_words, fault_words}

-- an edit that is left out, with its number and its fault
pub record LeftOut : Type 0 where
  pub number : ℕ
  pub edit : Edit
  pub fault : EditFault

-- the call of an edit, answered as done
abbrev pub as_done : Edit → Asked
as_done e = record { call = Edits e; reply = Done }

-- if the edit has no fault, its call and the later ones with it made, and else the later ones
-- without it
abbrev pub remade_if : Option EditFault → Edit → List Asked → List Asked → List Asked
remade_if None e with_it without_it = as_done e ∷ with_it
remade_if (Some f) e with_it without_it = without_it

-- the calls of the edits that can be made, one by one, on the timetable t
abbrev pub remade : Problem → List Placed → List Edit → List Asked
remade i t [] = []
remade i t (e ∷ es) = remade_if (edit_fault i t e) e (remade i (edited t e) es) (remade i t es)

-- if the edit has a fault, it and those left out later, and else those left out after it is made
abbrev pub left_out_if : Option EditFault → ℕ → Edit → List LeftOut → List LeftOut → List LeftOut
left_out_if None n e with_it without_it = with_it
left_out_if (Some f) n e with_it without_it = record { number = n; edit = e; fault = f } ∷ without_it

-- the edits that cannot be made, if the first edit has the number n
abbrev pub left_out : Problem → List Placed → ℕ → List Edit → List LeftOut
left_out i t n [] = []
left_out i t n (e ∷ es) = left_out_if (edit_fault i t e) n e (left_out i (edited t e) (n + 1) es) (left_out i t (n + 1) es)

-- the words for an edit that is left out
abbrev pub left_out_words : Problem → LeftOut → List (List ℕ)
left_out_words i x = codes "refused" ∷ decimal x.number ∷ (edit_words i x.edit ++ fault_words i x.fault)

-- the answer for edits that were redone on t
abbrev pub redone_line : Problem → List Placed → List Edit → List ℕ
redone_line i t es = line (codes "redone" ∷ decimal (length (remade i t es)) ∷ codes "of" ∷ decimal (length es) ∷ flat_map (left_out_words i) (left_out i t 1 es))

-- the words of the answer to an undo that made this edit and got this reply
abbrev pub undone_words : Problem → Edit → Reply → List (List ℕ)
undone_words i e (Refused f) = codes "refused" ∷ fault_words i f
undone_words i e _ = codes "done" ∷ edit_words i e

-- the answer of these words
abbrev pub undone_line : Problem → Edit → Reply → List ℕ
undone_line i e r = line (undone_words i e r)

-- the answers if there is nothing to redo, and nothing to undo
abbrev pub nothing_to_redo : List ℕ
nothing_to_redo = line (codes "nothing" ∷ codes "to" ∷ codes "redo" ∷ [])

abbrev pub nothing_to_undo : List ℕ
nothing_to_undo = line (codes "nothing" ∷ codes "to" ∷ codes "undo" ∷ [])

-- according to its fault, the edit x is made in the draft d, which becomes e, or nothing is made
-- and the words for it are added
abbrev pub IsMadeBy : Option EditFault → Problem → ℕ → Edit → DraftingValue → DraftingValue → List ℕ → List ℕ → Bool → Type 0
IsMadeBy None i n x d e old new was_made = (e ≡ asked_also d (Edits x) Done) × (new ≡ old) × (was_made ≡ true)
IsMadeBy (Some f) i n x d e old new was_made = (e ≡ d) × (new ≡ old ++ words_part (left_out_words i (record { number = n; edit = x; fault = f }))) × (was_made ≡ false)

-- the same, according to the fault that the edit has in the draft
abbrev pub IsMadeAgain : Problem → ℕ → Edit → DraftingValue → DraftingValue → List ℕ → List ℕ → Bool → Type 0
IsMadeAgain i n x d e old new was_made = IsMadeBy (edit_fault i (present_of i d) x) i n x d e old new was_made
