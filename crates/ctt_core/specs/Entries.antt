-- Which entries of a journal fit.
use Rattle.std.specs.Prelude.{◌<◌}
use Rattle.std.specs.List.{AllByRecursion as Each}
use Rattle.ctt_problem.specs.Problem.{Problem}
use Rattle.ctt_draft.specs.Drafts.{AskedFits}
use Rattle.ctt_core.specs.declared.journal.JournalEntry.{JournalEntry}

-- the planner's number is below 1,000, and the calls and replies fit
abbrev pub EntryFits : Problem → JournalEntry → Type 0
EntryFits i e = (e.planner < 1000) × Each (AskedFits i) e.asked
