-- Why a journal is refused.
use Rattle.std.proofs.Common.{◌≡◌, string_bytes, subst, ℕ, List}
use Rattle.std.specs.Global.{Global}
use Rattle.std.specs.Str.{IsUtf8}
use Rattle.std.specs.declared.string.String.{String}
use Rattle.ctt_problem.specs.Problem.{Problem}
use Rattle.ctt_text.specs.Words.{words}
use Rattle.ctt_core.specs.declared.journal.JournalEntry.{JournalEntry}
use Rattle.ctt_script.specs.JournalText.{IsJournalCauseOf, JournalSpells}
use Rattle.ctt_script.specs.declared.journal_fault.JournalFault.{JournalFault}
use Rattle.ctt_script.specs.declared.journal_fault.JournalFault.TheVariants as journal
use Rattle.ctt_files.specs.Faults.{status_of}
use Rattle.ctt_files.specs.declared.fault.Fault.{Fault}
use Rattle.ctt_files.proofs.Causes.{three_is_one, told_one}
use Rattle.ctt_commands.specs.Refusals.{IsNoJournalOf}
use Rattle.ctt_commands.specs.Faults.{IsJournalFault, fault_of_journal}

-- if the fault is not that memory ran out, the text is not a journal
abbrev pub TakesJournals : Problem → List ℕ → JournalFault → Type 0
TakesJournals problem bytes read = (entries : List JournalEntry) → IsUtf8 bytes → JournalSpells problem (words bytes) entries → read ≡ journal.NoMemory

-- such a text is not a journal
pub no_journal : (name : String Global) (read : JournalFault) (problem : Problem) (bytes : List ℕ) (fault : Fault) → IsJournalCauseOf problem bytes read → TakesJournals problem bytes read
    → IsJournalFault (string_bytes name) bytes read fault → IsNoJournalOf name problem bytes fault
no_journal name read problem bytes fault meets takes tells = record {
  met = read;
  tells = tells;
  meets = meets;
  is_none = λ one entries text. told_one fault_of_journal _ read fault tells one (λ point status. three_is_one (subst (λ other. status_of (fault_of_journal other point) ≡ 1) (takes entries text.is_text text.spells) status));
}
