-- The edits that lead from one timetable to another.
use Rattle.std.specs.Prelude.{◌≡◌, ℕ, Bool, not, ◌==◌, List, ◌++◌, map, filter, Some}
use Rattle.std.specs.Option.{option_eq}
use Rattle.std.specs.List.{AllByRecursion as Each}
use Rattle.ctt_problem.specs.Problem.{Problem}
use Rattle.ctt_problem.specs.declared.placed.Placed.{Placed}
use Rattle.ctt_rules.specs.Hard.{Lawful}
use Rattle.ctt_board.specs.Changes.{room_at}
use Rattle.ctt_edits.specs.Calls.{CallFits}
use Rattle.ctt_edits.specs.declared.call.Call.{Call}
use Rattle.ctt_edits.specs.declared.call.Call.TheVariants.{Edit as Edits}
use Rattle.ctt_edits.specs.declared.edit.Edit.{Edit}
use Rattle.ctt_edits.specs.declared.edit.Edit.TheVariants.{Place, Drop}
use Rattle.ctt_edits.specs.declared.reply.Reply.TheVariants.{Done}
use Rattle.ctt_draft.specs.Drafts.{replies, whole}

-- the lecture stands in t, in its slot and room
abbrev pub stands_in : List Placed → Placed → Bool
stands_in t l = option_eq (λ (a b : ℕ). a == b) (room_at l.course l.slot t) (Some l.room)

-- the lectures of t that do not stand so in u
abbrev pub only_in : List Placed → List Placed → List Placed
only_in t u = filter (λ l. not (stands_in u l)) t

abbrev pub drop_of : Placed → Edit
drop_of l = Drop l.course l.slot

abbrev pub place_of : Placed → Edit
place_of l = Place l.course l.slot l.room

-- the edits from t to u: the lectures that do not stand so in u are dropped, and then those of u
-- that do not stand so in t are placed
abbrev pub edits_between : List Placed → List Placed → List Edit
edits_between t u = map drop_of (only_in t u) ++ map place_of (only_in u t)

-- the edits as the calls of a draft
abbrev pub as_calls : List Edit → List Call
as_calls edits = map Edits edits

-- the edits lead from t to u: made in turn on t as the calls of a draft, each fits at its turn, and
-- together they leave u
pub record Leads (i : Problem) (t : List Placed) (edits : List Edit) (u : List Placed) : Type 0 where
  pub fit : Each (CallFits i) (as_calls edits)
  pub done : Each (λ reply. reply ≡ Done) (replies i t (as_calls edits))
  pub leaves : whole i t (as_calls edits) ≡ u

-- the edits between two lawful timetables lead from the one to the other
abbrev pub EditsLead : Type 0
EditsLead = (i : Problem) (t u : List Placed) → Lawful i t → Lawful i u → Leads i t (edits_between t u) u
