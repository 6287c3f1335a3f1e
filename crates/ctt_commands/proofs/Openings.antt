-- Openings that are refused, and what is printed and stored of a desk.
use Rattle.std.proofs.Common.{◌≡◌, ◌∙◌, ◌⊎◌, ⊎_elim, inl, inr, ◌<◌, ◌≤◌, ap, refl, sym, subst, ℕ, Bool, true, IsTrue, List, length, IfErr, IfSome, Option, Some, None, Result, Ok, Err}
use Rattle.std.specs.Io.KnownBytes.{Appends}
use Rattle.std.specs.Prelude.{is_some}
use Rattle.std.specs.Global.{Global}
use Rattle.std.specs.List.{AllByRecursion as Each}
use Rattle.std.specs.String.{string_bytes}
use Rattle.std.specs.declared.string.String.{String}
use Rattle.ctt_problem.specs.Problem.{Problem}
use Rattle.ctt_problem.specs.Timetable.{Fits}
use Rattle.ctt_problem.specs.declared.placed.Placed.{Placed}
use Rattle.ctt_edits.specs.Openings.{opening}
use Rattle.ctt_edits.specs.declared.fault.EditFault.{EditFault}
use Rattle.ctt_edits.proofs.OpeningLemmas.{opening_faults_fit}
use Rattle.ctt_core.specs.Audits.{IsVerdict}
use Rattle.ctt_core.specs.Desks.{DeskValue}
use Rattle.ctt_core.specs.Laws.{Stands}
use Rattle.ctt_core.specs.Runs.{accepted_of}
use Rattle.ctt_core.specs.declared.auditing.Verdict.{Verdict}
use Rattle.ctt_core.specs.declared.auditing.Verdict.TheVariants as found
use Rattle.ctt_core.specs.declared.journal.JournalEntry.{JournalEntry}
use Rattle.ctt_script.specs.AnswerText.{answer_text, script_run}
use Rattle.ctt_script.specs.RunFaults.{IsRunCause}
use Rattle.ctt_script.specs.WrittenText.{journal_text}
use Rattle.ctt_script.specs.declared.script_fault.ScriptFault.{ScriptFault}
use Rattle.ctt_script.specs.declared.script_fault.ScriptFault.TheVariants as script
use Rattle.ctt_files.specs.Faults.{IfUnwritten}
use Rattle.ctt_files.specs.Texts.{Held, Holds, IsStart}
use Rattle.ctt_files.specs.declared.fault.Fault.{Fault}
use Rattle.ctt_files.specs.declared.fault.Fault.TheVariants.{Machine}
use Rattle.ctt_files.specs.declared.fault.MachineFault.TheVariants.{CannotWrite}
use Rattle.ctt_files.proofs.Plain.{plain_written}
use Rattle.ctt_commands.specs.Verdicts.{VerdictFits}
use Rattle.ctt_commands.specs.Faults.{IsRunFault, RunFaultFits}
use Rattle.ctt_commands.specs.Refusals.{IsAnswerFault, IsOfScript}
use Rattle.ctt_commands.specs.Runs.{Answered}
use Rattle.ctt_files.specs.Storing.{KeepOthers, Stores}
use Rattle.ctt_commands.proofs.Plain.{refused_plain}

-- if the fault of an opening names a course, it is one of the instance
pub run_fits : (i : Problem) (ls : List Placed) (left : Option (List ℕ)) (fault : ScriptFault) → Each (Fits i) ls → IsRunCause i ls left fault → RunFaultFits i fault
run_fits i ls left (script.Unlawful at fault) fit cause = opening_faults_fit i ls at fault fit cause
run_fits i ls left script.Read fit cause = tt
run_fits i ls left script.TooLong fit cause = tt
run_fits i ls left script.Write fit cause = tt
run_fits i ls left script.NoMemory fit cause = tt

pub verdict_fits : (i : Problem) (ls : List Placed) (h : List JournalEntry) (v : Verdict) → Each (Fits i) ls → IsVerdict i ls h v → VerdictFits i v
verdict_fits i ls h found.Agrees fit is = tt
verdict_fits i ls h (found.BadOpening at fault) fit is = opening_faults_fit i ls at fault fit is
verdict_fits i ls h (found.Differs entry call) fit is = tt

-- the desk opens if no lecture has a fault
opened_is : (r : Result (List Placed) (ℕ × EditFault)) → ((at : ℕ) (found : EditFault) → r ≡ Err (at, found) → ⊥) → (opened : List Placed) × (r ≡ Ok opened)
opened_is (Ok opened) none = (opened, refl)
opened_is (Err refused) none = absurd (none refused.0 refused.1 refl)

abbrev IsNotWritten : ScriptFault → Type 0
IsNotWritten script.Write = ⊥
IsNotWritten _ = Unit {0}

unmarked_of : {U : Type 0} (fault : ScriptFault) → IsNotWritten fault → (fault ≡ script.Write) ⊎ U → U
unmarked_of fault not (inl same) = absurd (subst IsNotWritten same not)
unmarked_of fault not (inr unmarked) = unmarked

abbrev IsLong : ScriptFault → Type 0
IsLong script.TooLong = Unit {0}
IsLong _ = ⊥

-- why a script is not answered, as the program reports it
pub answer_refused : (i : Problem) (ls : List Placed) (name : String Global) (left : Option (List ℕ)) (fault : ScriptFault) (told : Fault) (M U : Type 0) → IsRunFault i name fault told → IsRunCause i ls left fault
    → ((at : ℕ) (found : EditFault) → opening i ls ≡ Err (at, found) → (fault ≡ script.Unlawful at found) ⊎ (fault ≡ script.NoMemory)) → (fault ≡ script.Write → M) → (fault ≡ script.Write) ⊎ U
    → IfUnwritten told M (IsAnswerFault i ls name left told × U)
answer_refused i ls name left (script.Unlawful at found) told M U is cause refused failed unmarked =
    let u : U = unmarked_of (script.Unlawful at found) tt unmarked in
    let line : IfUnwritten told M (IsAnswerFault i ls name left told × U) = plain_written told M _ (refused_plain i at found told is) (inr (inl (at, found, cause, is)), u) in
    line
answer_refused i ls name left script.Read told M U is cause refused failed unmarked =
    subst (λ t. IfUnwritten t M (IsAnswerFault i ls name left t × U)) (sym is) (inl (inl refl), unmarked_of script.Read tt unmarked)
answer_refused i ls name left script.TooLong told M U is cause refused failed unmarked =
    let opens = opened_is (opening i ls) (λ at found e. ⊎_elim (λ same. subst IsLong same tt) (λ same. subst IsLong same tt) (refused at found e)) in
    subst (λ t. IfUnwritten t M (IsAnswerFault i ls name left t × U)) (sym is) (inr (inr (opens.0, opens.1, refl, cause)), unmarked_of script.TooLong tt unmarked)
answer_refused i ls name left script.Write told M U is cause refused failed unmarked = subst (λ t. IfUnwritten t M (IsAnswerFault i ls name left t × U)) (sym is) (failed refl)
answer_refused i ls name left script.NoMemory told M U is cause refused failed unmarked =
    subst (λ t. IfUnwritten t M (IsAnswerFault i ls name left t × U)) (sym is) (inl (inr refl), unmarked_of script.NoMemory tt unmarked)

-- what holds of a text still to be read holds of the file that it is read from
pub told_through : (o left : Option (List ℕ)) (P : List ℕ → Type 0) → IfSome o (λ text. left ≡ Some text) → IfSome left P → IfSome o P
told_through None left P same h = tt
told_through (Some text) left P same h = subst (λ l. IfSome l P) same h

-- the same by the files
pub answer_in : (i : Problem) (ls : List Placed) (name : String Global) (start : Option (String Global)) (held : Held) (left : Option (List ℕ)) (fault : Fault) → Holds held name (λ text. left ≡ Some text) → IsStart i held start ls
    → IsAnswerFault i ls name left fault → IsOfScript name start held i fault
answer_in i ls name start held left fault whole is_start (inl machine) = inl machine
answer_in i ls name start held left fault whole is_start (inr (inl refused)) = inr (inl (inr (ls, is_start, refused)))
answer_in i ls name start held left fault whole is_start (inr (inr long)) = inr (inr (ls, is_start, (long.0, long.1, (long.2, told_through (held (string_bytes name)) left (λ text. 67108864 < length text) whole long.3))))

pub some_weaker : (o : Option (List ℕ)) (P Q : List ℕ → Type 0) → IfSome o P → ((text : List ℕ) → P text → Q text) → IfSome o Q
some_weaker None P Q h more = tt
some_weaker (Some text) P Q h more = more text h

-- if only the last step changed files, those that it left unchanged are unchanged
pub others_kept : (stored : Option (String Global)) (before later after : Held) → later ≡ before → KeepOthers stored later after → KeepOthers stored before after
others_kept stored before later after same keep = subst (λ (held : Held). KeepOthers stored held after) same keep

-- if all files are unchanged, all except any one are
pub all_kept : (stored : Option (String Global)) (before after : Held) → after ≡ before → KeepOthers stored before after
all_kept stored before after same = λ other is. ap (λ (held : Held). held other) same

-- the answers to the script that is read, and the journal of the desk that answered it
pub answered_all : (left : Option (List ℕ)) (i : Problem) (desk : DeskValue) (opened : List Placed) (old new : Option (List ℕ)) (wanted : Bool) (journal : List ℕ) (entries : List JournalEntry)
    → IfSome left (λ text. Appends old new (answer_text i opened text)) → IfSome left (λ text. Stands desk (script_run i opened text)) → IfSome left (λ text. length text ≤ 67108864)
    → entries ≡ desk.journal → (IsTrue wanted → journal ≡ journal_text i entries) → IfSome left (λ text. Answered i opened text old new wanted journal)
answered_all None i desk opened old new wanted journal entries prints stands short same is = tt
answered_all (Some text) i desk opened old new wanted journal entries prints stands short same is = record {
  short = short;
  prints = prints;
  is_journal = λ want. is want ∙ ap (journal_text i) (same ∙ stands.at.journal);
}

-- the journal that is stored, if a file is given for it, is that of the drafts that the script committed
pub journal_stored : (journal : Option (String Global)) (before later after : Held) (told : Option (List ℕ)) (i : Problem) (opened : List Placed) (old new : Option (List ℕ)) (text : List ℕ)
    → later ≡ before → IfSome told (λ script. Answered i opened script old new (is_some journal) text) → Stores journal later after (λ bytes. bytes ≡ text)
    → Stores journal before after (λ bytes. IfSome told (λ script. bytes ≡ journal_text i (accepted_of (script_run i opened script))))
journal_stored None before later after told i opened old new text same answered stores = stores ∙ same
journal_stored (Some name) before later after told i opened old new text same answered stores = (
  some_weaker (after (string_bytes name)) (λ bytes. bytes ≡ text) (λ bytes. IfSome told (λ script. bytes ≡ journal_text i (accepted_of (script_run i opened script)))) stores.0
      (λ bytes is. some_weaker told (λ script. Answered i opened script old new true text) (λ script. bytes ≡ journal_text i (accepted_of (script_run i opened script))) answered (λ script all. is ∙ all.is_journal refl)),
  others_kept (Some name) before later after same stores.1,
)

-- nothing was printed if the opening is refused, and else what stands of the opened desk
pub opened_or : (r : Result (List Placed) (ℕ × EditFault)) (S : Type 0) (P : List Placed → Type 0) → ((at : ℕ) (found : EditFault) → r ≡ Err (at, found) → S) → ((opened : List Placed) → r ≡ Ok opened → P opened)
    → S ⊎ ((opened : List Placed) × (r ≡ Ok opened) × P opened)
opened_or (Ok opened) S P none some = inr (opened, refl, some opened refl)
opened_or (Err refused) S P none some = inl (none refused.0 refused.1 refl)

-- the journal could not be stored, when all answers were printed
pub unstored_after : {T : Type 0} (r : Result T Fault) (M G A : Type 0) (P : Fault → Type 0) → IfErr r (λ fault. (fault ≡ Machine CannotWrite) × G) → A → IfErr r (λ fault. IfUnwritten fault (M ⊎ (G × A)) (P fault))
unstored_after (Ok x) M G A P is all = tt
unstored_after (Err fault) M G A P is all = subst (λ f. IfUnwritten f (M ⊎ (G × A)) (P f)) (sym is.0) (inr (is.1, all))
