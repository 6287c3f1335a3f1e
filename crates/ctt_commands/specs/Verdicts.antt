-- What the commands `audit` and `list` print of the entries of a journal.
use Rattle.std.specs.Prelude.{◌≡◌, ◌≢◌, ◌⊎◌, List, [], ◌∷◌, codes}
use Rattle.std.specs.Fmt.{decimal}
use Rattle.ctt_problem.specs.Problem.{Problem}
use Rattle.ctt_problem.specs.declared.placed.Placed.{Placed}
use Rattle.ctt_text.specs.Written.{soltext}
use Rattle.ctt_edits.specs.Fitting.{FaultFits}
use Rattle.ctt_core.specs.Audits.{IsVerdict, LeavesList}
use Rattle.ctt_core.specs.declared.auditing.Verdict.{Verdict}
use Rattle.ctt_core.specs.declared.auditing.Verdict.TheVariants as found
use Rattle.ctt_core.specs.declared.journal.JournalEntry.{JournalEntry}
use Rattle.ctt_line.specs.Lines.{line}
use Rattle.ctt_files.specs.declared.fault.Fault.{Fault}
use Rattle.ctt_files.specs.declared.fault.Fault.TheVariants.{Machine}
use Rattle.ctt_files.specs.declared.fault.MachineFault.TheVariants.{NoMemory}
use Rattle.ctt_files.specs.declared.outcome.Outcome.TheVariants.{Done, Differs}
use Rattle.ctt_files.specs.declared.output.Output.{Output}
use Rattle.ctt_commands.specs.Faults.{IsOpeningFault}

-- the text says what the verdict is, which determines the outcome
abbrev pub ShowsVerdict : Verdict → Output → Type 0
ShowsVerdict found.Agrees output = (output.text.items ≡ line (codes "agrees" ∷ [])) × (output.outcome ≡ Done)
ShowsVerdict (found.Differs entry call) output = (output.text.items ≡ line (codes "differs" ∷ decimal entry ∷ decimal call ∷ [])) × (output.outcome ≡ Differs)
ShowsVerdict (found.BadOpening at fault) output = ⊥

-- the fault of an opening names a course of the instance, if it names one
abbrev pub VerdictFits : Problem → Verdict → Type 0
VerdictFits problem (found.BadOpening at fault) = FaultFits problem fault
VerdictFits problem _ = Unit {0}

-- why a verdict is not shown: the opening is refused, or memory runs out
abbrev pub IsVerdictFault : Problem → Verdict → Fault → Type 0
IsVerdictFault problem found.Agrees fault = fault ≡ Machine NoMemory
IsVerdictFault problem (found.Differs entry call) fault = fault ≡ Machine NoMemory
IsVerdictFault problem (found.BadOpening at why) fault = IsOpeningFault problem at why fault

-- the text is the verdict on the entries, on the opening with these lectures
abbrev pub ShowsAudit : Problem → List Placed → List JournalEntry → Output → Type 0
ShowsAudit problem lectures entries output = (verdict : Verdict) × IsVerdict problem lectures entries verdict × ShowsVerdict verdict output

-- the text is the timetable after the entries, as a solution, or the verdict of the audit if the
-- entries do not agree
abbrev pub ShowsLeft : Problem → List Placed → List JournalEntry → Output → Type 0
ShowsLeft problem lectures entries output =
    ((output.outcome ≡ Done) × ((list : List Placed) × LeavesList problem lectures entries list × (output.text.items ≡ soltext problem list)))
    ⊎ ((verdict : Verdict) × IsVerdict problem lectures entries verdict × (verdict ≢ found.Agrees) × ShowsVerdict verdict output)
