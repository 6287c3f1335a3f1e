-- Why a text is refused.
use Rattle.std.proofs.Common.{◌≡◌, ◌∙◌, ◌⊎◌, inl, inr, ap, subst, sym, ℕ, List, Bool, arith, Result, Ok, Err}
use Rattle.std.specs.Global.{Global}
use Rattle.std.specs.declared.string.String.{String}
use Rattle.std.specs.Str.{IsUtf8}
use Rattle.ctt_text.specs.BarredLaws.{IsBarredCauseOf}
use Rattle.ctt_text.specs.BarredText.{BarSpells}
use Rattle.ctt_text.specs.BlockedLaws.{IsBlockedCauseOf}
use Rattle.ctt_text.specs.BlockedText.{BlockSpells}
use Rattle.ctt_text.specs.InstanceLaws.{IsCauseOf}
use Rattle.ctt_text.specs.InstanceText.{Spells}
use Rattle.ctt_problem.specs.Problem.{Problem}
use Rattle.ctt_text.specs.SolutionLaws.{IsSolutionCauseOf}
use Rattle.ctt_text.specs.SolutionText.{SolSpells}
use Rattle.ctt_text.specs.Words.{words}
use Rattle.ctt_text.specs.declared.fault.BarredFault.{BarredFault}
use Rattle.ctt_text.specs.declared.fault.BarredFault.TheVariants as barred
use Rattle.ctt_text.specs.declared.fault.BlockedFault.{BlockedFault}
use Rattle.ctt_text.specs.declared.fault.BlockedFault.TheVariants as blocked
use Rattle.ctt_text.specs.declared.fault.ReadFault.{ReadFault}
use Rattle.ctt_text.specs.declared.fault.ReadFault.TheVariants as instance
use Rattle.ctt_text.specs.declared.fault.SolutionFault.{SolutionFault}
use Rattle.ctt_text.specs.declared.fault.SolutionFault.TheVariants as solution
use Rattle.ctt_problem.specs.declared.placed.Placed.{Placed}
use Rattle.ctt_problem.proofs.ResultLemmas.{err_is_ok, err_same}
use Rattle.ctt_files.specs.Refusals.{IsNoText}
use Rattle.ctt_files.specs.Texts.{IsNoBarred, IsNoBlocked, IsNoInstance, IsNoSolution}
use Rattle.ctt_files.specs.Faults.{IsBarredFault, IsBlockedFault, IsInstanceFault, IsSolutionFault, TellsOf, fault_of_barred, fault_of_blocked, fault_of_instance, fault_of_solution, status_of}
use Rattle.ctt_files.specs.declared.fault.Fault.{Fault}

-- running out of memory is not a refusal
pub three_is_one : {C : Type 0} → ◌≡◌ {A = ℕ} 3 1 → C
three_is_one e = absurd (omega (arith, e))

-- a fault of status 1 tells what was met
pub told_one : {E C : Type 0} (told : E → String Global → Fault) (line : List ℕ) (met : E) (fault : Fault) → TellsOf told line met fault → status_of fault ≡ 1 → ((point : String Global) → status_of (told met point) ≡ 1 → C) → C
told_one told line met fault (inl none) one goes = three_is_one (sym (ap status_of none) ∙ one)
told_one told line met fault (inr is) one goes = goes is.0 (sym (ap status_of is.2) ∙ one)

-- if the bytes spell an instance, the fault can only be that memory ran out
abbrev pub TakesInstances : List ℕ → ReadFault → Type 0
TakesInstances bytes read = (problem : Problem) → IsUtf8 bytes → Spells (words bytes) problem
    → ◌⊎◌ (◌≡◌ {A = Result Problem ReadFault} (Err read) (Ok problem)) (◌≡◌ {A = Result Problem ReadFault} (Err read) (Err instance.NoMemory))

-- the same for solutions
abbrev pub TakesSolutions : Problem → List ℕ → SolutionFault → Type 0
TakesSolutions problem bytes read = (timetable : List Placed) → IsUtf8 bytes → SolSpells problem (words bytes) timetable → read ≡ solution.NoMemory

of_no_instance : {C : Type 0} (problem : Problem) (read : ReadFault) (point : String Global) → status_of (fault_of_instance read point) ≡ 1
    → ◌⊎◌ (◌≡◌ {A = Result Problem ReadFault} (Err read) (Ok problem)) (◌≡◌ {A = Result Problem ReadFault} (Err read) (Err instance.NoMemory)) → C
of_no_instance problem read point one (inl taken) = err_is_ok _ problem read taken
of_no_instance problem read point one (inr wanted) = three_is_one (subst (λ fault. status_of (fault_of_instance fault point) ≡ 1) (err_same {A = Problem} read instance.NoMemory wanted) one)

-- if the fault is not that memory ran out, the text is not valid for any instance
pub no_instance : (file : List ℕ) (read : ReadFault) (bytes : List ℕ) (fault : Fault) → IsCauseOf bytes read → TakesInstances bytes read → IsInstanceFault file bytes read fault → IsNoText (IsInstanceFault file) IsCauseOf IsNoInstance bytes fault
no_instance file read bytes fault meets takes tells = record {
  met = read;
  tells = tells;
  meets = meets;
  is_none = λ one problem text. told_one fault_of_instance _ read fault tells one (λ point status. of_no_instance problem read point status (takes problem text.is_text text.spells));
}

-- if the fault is not that memory ran out, the text is not valid for a solution
pub no_solution : (file : List ℕ) (read : SolutionFault) (problem : Problem) (bytes : List ℕ) (fault : Fault) → IsSolutionCauseOf problem bytes read → TakesSolutions problem bytes read → IsSolutionFault file bytes read fault → IsNoText (IsSolutionFault file) (IsSolutionCauseOf problem) (IsNoSolution problem) bytes fault
no_solution file read problem bytes fault meets takes tells = record {
  met = read;
  tells = tells;
  meets = meets;
  is_none = λ one timetable text. told_one fault_of_solution _ read fault tells one (λ point status. three_is_one (subst (λ other. status_of (fault_of_solution other point) ≡ 1) (takes timetable text.is_text text.spells) status));
}

-- the same for barred rooms
abbrev pub TakesBarred : Problem → List ℕ → BarredFault → Type 0
TakesBarred problem bytes read = (table : List Bool) → IsUtf8 bytes → BarSpells problem (words bytes) table → read ≡ barred.NoMemory

pub no_barred : (file : List ℕ) (read : BarredFault) (problem : Problem) (bytes : List ℕ) (fault : Fault) → IsBarredCauseOf problem bytes read → TakesBarred problem bytes read → IsBarredFault file bytes read fault → IsNoText (IsBarredFault file) (IsBarredCauseOf problem) (IsNoBarred problem) bytes fault
no_barred file read problem bytes fault meets takes tells = record {
  met = read;
  tells = tells;
  meets = meets;
  is_none = λ one made text. told_one fault_of_barred _ read fault tells one (λ point status. three_is_one (subst (λ other. status_of (fault_of_barred other point) ≡ 1) (takes text.table text.is_text text.spells) status));
}

-- the same for what is blocked
abbrev pub TakesBlocked : Problem → List ℕ → BlockedFault → Type 0
TakesBlocked problem bytes read = (closed rooms : List Bool) → IsUtf8 bytes → BlockSpells problem (words bytes) closed rooms → read ≡ blocked.NoMemory

pub no_blocked : (file : List ℕ) (read : BlockedFault) (problem : Problem) (bytes : List ℕ) (fault : Fault) → IsBlockedCauseOf problem bytes read → TakesBlocked problem bytes read → IsBlockedFault file bytes read fault → IsNoText (IsBlockedFault file) (IsBlockedCauseOf problem) (IsNoBlocked problem) bytes fault
no_blocked file read problem bytes fault meets takes tells = record {
  met = read;
  tells = tells;
  meets = meets;
  is_none = λ one made text. told_one fault_of_blocked _ read fault tells one (λ point status. three_is_one (subst (λ other. status_of (fault_of_blocked other point) ≡ 1) (takes text.closed text.blocked text.is_text text.spells) status));
}
