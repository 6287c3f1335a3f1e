-- The faults of journals, crews, openings and runs, and the lines that report them.
use Rattle.std.specs.Prelude.{◌≡◌, ◌⊎◌, ◌++◌, ℕ, List, codes}
use Rattle.std.specs.Fmt.{decimal}
use Rattle.std.specs.Global.{Global}
use Rattle.std.specs.String.{string_bytes}
use Rattle.std.specs.declared.string.String.{String}
use Rattle.ctt_problem.specs.Problem.{Problem}
use Rattle.ctt_edits.specs.Fitting.{FaultFits}
use Rattle.ctt_edits.specs.declared.fault.EditFault.{EditFault}
use Rattle.ctt_line.specs.Lines.{line}
use Rattle.ctt_script.specs.JournalFaults.{journal_point}
use Rattle.ctt_script.specs.WrittenWords.{fault_words}
use Rattle.ctt_crew.specs.declared.crew_fault.CrewFault.{CrewFault}
use Rattle.ctt_crew.specs.declared.crew_fault.CrewFault.TheVariants as crew
use Rattle.ctt_script.specs.declared.journal_fault.JournalFault.{JournalFault}
use Rattle.ctt_script.specs.declared.journal_fault.JournalFault.TheVariants as journal
use Rattle.ctt_script.specs.declared.script_fault.ScriptFault.{ScriptFault}
use Rattle.ctt_script.specs.declared.script_fault.ScriptFault.TheVariants as script
use Rattle.ctt_files.specs.declared.fault.Fault.{Fault}
use Rattle.ctt_files.specs.declared.fault.ContentsFault.TheVariants.{Journal, Opening}
use Rattle.ctt_files.specs.declared.fault.Fault.TheVariants.{Contents, Machine}
use Rattle.ctt_files.specs.declared.fault.MachineFault.TheVariants.{CannotRead, CannotWrite, NoMemory, NoPlace, NoThread, TooLong}
use Rattle.ctt_files.specs.Faults.{IfUnwritten, TellsOf}

-- the program's fault for a fault of a journal, or of minutes
abbrev pub fault_of_journal : JournalFault → String Global → Fault
fault_of_journal (journal.NotText byte) point = Contents (Journal 1 byte point)
fault_of_journal (journal.Missing word) point = Contents (Journal 2 word point)
fault_of_journal (journal.BadWord word) point = Contents (Journal 3 word point)
fault_of_journal journal.NoMemory point = Machine NoMemory

-- the fault tells what was met in this text of the file of this name, and where
abbrev pub IsJournalFault : List ℕ → List ℕ → JournalFault → Fault → Type 0
IsJournalFault file text met fault = TellsOf fault_of_journal (journal_point file text met) met fault

-- the fault of a crew that could not be run
abbrev pub fault_of_crew : CrewFault → Fault
fault_of_crew crew.NoPlace = Machine NoPlace
fault_of_crew (crew.NoThread planner) = Machine NoThread
fault_of_crew crew.NoMemory = Machine NoMemory

-- the line that reports the lecture, counted from 1, that cannot be placed in an opening
abbrev pub opening_line : Problem → ℕ → EditFault → List ℕ
opening_line problem at fault = codes "timedesk: opening " ++ (decimal at ++ (codes " " ++ line (fault_words problem fault)))

-- the fault of such an opening, or memory runs out for its line
abbrev pub IsOpeningFault : Problem → ℕ → EditFault → Fault → Type 0
IsOpeningFault problem at fault told = ((text : String Global) × (told ≡ Contents (Opening text)) × (string_bytes text ≡ opening_line problem at fault)) ⊎ (told ≡ Machine NoMemory)

-- if the fault of a run names a course, it is one of the instance
abbrev pub RunFaultFits : Problem → ScriptFault → Type 0
RunFaultFits problem (script.Unlawful at fault) = FaultFits problem fault
RunFaultFits problem fault = Unit {0}

-- the fault of a run of the script in this file
abbrev pub IsRunFault : Problem → String Global → ScriptFault → Fault → Type 0
IsRunFault problem name (script.Unlawful at fault) told = IsOpeningFault problem at fault told
IsRunFault problem name script.Read told = told ≡ Machine (CannotRead name)
IsRunFault problem name script.TooLong told = told ≡ Machine (TooLong name)
IsRunFault problem name script.Write told = told ≡ Machine CannotWrite
IsRunFault problem name script.NoMemory told = told ≡ Machine NoMemory

-- K, unless the fault is that something could not be written, and then K or S
abbrev pub KeptUnless : Fault → Type 0 → Type 0 → Type 0
KeptUnless fault S K = IfUnwritten fault (K ⊎ S) K
