-- Replaying changes, up to the first that does not fit.
use Rattle.std.specs.Prelude.{◌≡◌, Bool, true, false, cond, ◌&&◌, List, [], ◌∷◌, ◌++◌, None}
use Rattle.std.specs.List.{AllByRecursion as Each}
use Rattle.ctt_problem.specs.Problem.{Problem}
use Rattle.ctt_problem.specs.declared.placed.Placed.{Placed}
use Rattle.ctt_rules.specs.Hard.{Lawful}
use Rattle.ctt_board.specs.Changes.{apply, is_change, apply_all, ChangeFits, ChangesFit}
use Rattle.ctt_board.specs.Fitting.{fits}
use Rattle.ctt_board.specs.declared.cell.Cell.{Cell}
use Rattle.ctt_edits.specs.Calls.{CallFits}
use Rattle.ctt_edits.specs.declared.call.Call.{Call}
use Rattle.ctt_draft.specs.Drafts.{whole, changes, stale}

-- the timetable after the changes that precede the first one that does not fit
abbrev pub replayed : Problem → List (List Cell) → List Placed → List Placed
replayed i [] t = t
replayed i (x ∷ xs) t = cond (fits i x t) (replayed i xs (apply x t)) t

-- each change fits after the earlier ones
abbrev pub all_fit : Problem → List (List Cell) → List Placed → Bool
all_fit i [] t = true
all_fit i (x ∷ xs) t = fits i x t && all_fit i xs (apply x t)

-- no change is left, or the next one does not fit
abbrev pub IsEnd : Problem → List (List Cell) → List Placed → Bool → Type 0
IsEnd i [] t all = all ≡ true
IsEnd i (x ∷ xs) t all = (all ≡ false) × (ChangeFits i x t → ⊥)

-- where a replay of these changes on t stops, with the timetable that it leaves and whether it made
-- all of them: it made the first ones, each of which fits after the earlier ones, and no others
pub record StopsAtMisfit (i : Problem) (all : List (List Cell)) (t left : List Placed) (whole : Bool) : Type 0 where
  pub first : List (List Cell)
  pub rest : List (List Cell)
  pub parts : all ≡ first ++ rest
  pub fit : ChangesFit i first t
  pub leaves : left ≡ apply_all first t
  pub end : IsEnd i rest left whole

-- a replay stops before the first change that does not fit, and only there
abbrev pub ReplayStops : Type 0
ReplayStops = (i : Problem) (xs : List (List Cell)) (t : List Placed) → Lawful i t → Each (λ x. is_change x ≡ true) xs → StopsAtMisfit i xs t (replayed i xs t) (all_fit i xs t)

-- if each change fits after the earlier ones, a replay makes all of them and has the same result as
-- settling them
abbrev pub ReplayIsSettling : Type 0
ReplayIsSettling = (i : Problem) (xs : List (List Cell)) (t : List Placed) → Lawful i t → Each (λ x. is_change x ≡ true) xs → ChangesFit i xs t → (replayed i xs t ≡ apply_all xs t) × (all_fit i xs t ≡ true)

-- replaying the changes of a draft that is not stale on the present timetable has the same result
-- as making its calls there
abbrev pub DraftReplays : Type 0
DraftReplays = (i : Problem) (base now : List Placed) (calls : List Call) → Lawful i base → Lawful i now → Each (CallFits i) calls → stale i base now calls ≡ None → replayed i (changes i base calls) now ≡ whole i now calls
