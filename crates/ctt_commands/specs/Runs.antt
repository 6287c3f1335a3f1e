-- What the command `run` prints and stores.
use Rattle.std.specs.Prelude.{◌≡◌, ◌≤◌, ℕ, Bool, IfSome, IsTrue, List, Option, Ok, length}
use Rattle.std.specs.Global.{Global}
use Rattle.std.specs.Io.KnownBytes.{Appends}
use Rattle.std.specs.declared.string.String.{String}
use Rattle.ctt_problem.specs.Problem.{Problem}
use Rattle.ctt_problem.specs.declared.placed.Placed.{Placed}
use Rattle.ctt_edits.specs.Openings.{opening}
use Rattle.ctt_core.specs.Runs.{accepted_of}
use Rattle.ctt_script.specs.AnswerText.{answer_text, script_run}
use Rattle.ctt_script.specs.WrittenText.{journal_text}
use Rattle.ctt_files.specs.Output.{AppendsFront}
use Rattle.ctt_files.specs.Storing.{Stores}
use Rattle.ctt_files.specs.Texts.{Held, Holds, IsInstanceIn, IsStart}
use Rattle.ctt_files.specs.declared.sides.Sides.{Sides}

-- the answers to the script, which is within the limit, are printed, and the journal is that of the
-- accepted drafts, if it is wanted
pub record Answered (problem : Problem) (opened : List Placed) (script : List ℕ) (old new : Option (List ℕ)) (wanted : Bool) (journal : List ℕ) : Type 0 where
  pub short : length script ≤ 67108864
  pub prints : Appends old new (answer_text problem opened script)
  pub is_journal : IsTrue wanted → journal ≡ journal_text problem (accepted_of (script_run problem opened script))

-- a prefix of the answers to a script, if it is known, is printed by a desk that opens with these
-- lectures
abbrev pub PrintsFront : Problem → List Placed → Option (List ℕ) → Option (List ℕ) → Option (List ℕ) → Type 0
PrintsFront problem lectures script old new = (opened : List Placed) × (opening problem lectures ≡ Ok opened)
    × IfSome script (λ text. AppendsFront old new (answer_text problem opened text))

-- this is printed of the answers to the script, which is run on a desk of the instance in a file
-- that opens with the start
pub record AnswersScript (Prints : List ℕ → Type 0) (instance : String Global) (sides : Sides) (script : String Global) (start : Option (String Global)) (held : Held) : Type 0 where
  pub problem : Problem
  pub is_instance : IsInstanceIn held instance sides problem
  pub lectures : List Placed
  pub is_start : IsStart problem held start lectures
  pub opened : List Placed
  pub opens : opening problem lectures ≡ Ok opened
  pub prints : Holds held script (λ text. Prints (answer_text problem opened text))

-- the script, which is within the limit, is run on a desk of the instance in a file that opens with
-- the start; its answers are printed, and the accepted drafts are stored as a journal, if a file is
-- given
pub record RunsScript (instance : String Global) (sides : Sides) (script : String Global) (start journal : Option (String Global)) (before after : Held) (old new : Option (List ℕ)) : Type 0 where
  pub problem : Problem
  pub is_instance : IsInstanceIn before instance sides problem
  pub lectures : List Placed
  pub is_start : IsStart problem before start lectures
  pub opened : List Placed
  pub opens : opening problem lectures ≡ Ok opened
  pub short : Holds before script (λ text. length text ≤ 67108864)
  pub prints : Holds before script (λ text. Appends old new (answer_text problem opened text))
  pub stores : Stores journal before after (λ bytes. Holds before script (λ text. bytes ≡ journal_text problem (accepted_of (script_run problem opened text))))
