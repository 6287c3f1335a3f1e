-- A desk that answers items one after another, and how much of its answers is written.
use Rattle.std.specs.Prelude.{◌≡◌, ℕ, List, [], ◌++◌, Option}
use Rattle.std.specs.Io.KnownBytes.{Appends}
use Rattle.ctt_core.specs.Runs.{Turn}
use Rattle.ctt_core.specs.Desks.{DeskValue, SameDesk}
use Rattle.ctt_core.specs.Laws.{Stands}
use Rattle.ctt_core.specs.declared.event.Event.{Event}
use Rattle.ctt_script.specs.AnswerText.{answers_after, run_after}
use Rattle.ctt_files.specs.Output.{AppendsFront}
use Rattle.ctt_script.specs.ScriptText.{items_of}

-- the desk is in the state that some run leads to
abbrev pub IsAtRun : DeskValue → Type 0
IsAtRun v = (past : List Turn) × Stands v past

-- by answering these items the desk v became the desk w; the text has grown by the answers
pub record PlaysItems (v w : DeskValue) (old new : List ℕ) (items : List (Option Event)) : Type 0 where
  pub same : SameDesk v w
  pub goes_on : (past : List Turn) → Stands v past → Stands w (run_after v.problem v.opening past items)
  pub grown : (past : List Turn) → Stands v past → new ≡ old ++ answers_after v.problem v.opening past items

-- of all lines those in `left` remain; the answers to the others are written, except for `kept`,
-- which is still buffered
pub record Answering (v w : DeskValue) (all left : List (List ℕ)) (before after : Option (List ℕ)) (kept : List ℕ) : Type 0 where
  pub done : List (Option Event)
  pub written : List ℕ
  pub lines : items_of v.problem all ≡ done ++ items_of v.problem left
  pub answered : PlaysItems v w [] (written ++ kept) done
  pub taken : Appends before after written

-- by answering these items the desk v became the desk w; all answers are written
pub record Wrote (v w : DeskValue) (items : List (Option Event)) (before after : Option (List ℕ)) : Type 0 where
  pub text : List ℕ
  pub taken : Appends before after text
  pub answered : PlaysItems v w [] text items

-- a prefix of the answers to these items is written
abbrev pub WroteFront : DeskValue → List (Option Event) → Option (List ℕ) → Option (List ℕ) → Type 0
WroteFront v items before after = (past : List Turn) → Stands v past → AppendsFront before after (answers_after v.problem v.opening past items)
