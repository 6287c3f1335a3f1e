-- What the command `journal` recovers from minutes, and what it reports.
use Rattle.std.specs.Prelude.{◌++◌, ℕ, List, [], Option, Some, None, IfSome, codes, is_some}
use Rattle.std.specs.Fmt.{decimal}
use Rattle.ctt_problem.specs.Problem.{Problem}
use Rattle.ctt_core.specs.declared.journal.JournalEntry.{JournalEntry}
use Rattle.ctt_log.specs.Recovery.{IsRecovered, IsTornAt}

-- these are the whole entries at the beginning of minutes; what may be torn after them begins at
-- this byte of the minutes
abbrev pub IsRecoveredAs : Problem → List ℕ → List JournalEntry → Option ℕ → Type 0
IsRecoveredAs problem text entries torn = IsRecovered problem text entries (is_some torn)
    × IfSome torn (IsTornAt problem text entries)

-- the line that reports the byte at which what is torn begins, or the empty text
abbrev pub torn_text : Option ℕ → List ℕ
torn_text None = []
torn_text (Some at) = codes "timedesk: torn at byte " ++ (decimal at ++ codes "\n")
