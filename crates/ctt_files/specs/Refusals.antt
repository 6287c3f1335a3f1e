-- Why an input is refused: the file that the fault comes from, and the fault of its text.
use Rattle.std.specs.Prelude.{◌≡◌, ◌⊎◌, ◌<◌, ℕ, List, [], ◌∷◌, Option, Some, None, IfSome, length}
use Rattle.std.specs.Global.{Global}
use Rattle.std.specs.String.{string_bytes}
use Rattle.std.specs.declared.string.String.{String}
use Rattle.ctt_text.specs.BarredLaws.{IsBarredCauseOf}
use Rattle.ctt_text.specs.BlockedLaws.{IsBlockedCauseOf}
use Rattle.ctt_text.specs.InstanceLaws.{IsCauseOf}
use Rattle.ctt_problem.specs.Problem.{Problem}
use Rattle.ctt_text.specs.SolutionLaws.{IsSolutionCauseOf}
use Rattle.ctt_files.specs.declared.input.InputFault.{InputFault}
use Rattle.ctt_files.specs.declared.input.InputFault.TheVariants as input
use Rattle.ctt_files.specs.Faults.{IsBarredFault, IsBlockedFault, IsInstanceFault, IsSolutionFault, fault_of_input, status_of}
use Rattle.ctt_files.specs.Texts.{Held, Holds, IsBarredBy, IsInstanceIn, IsInstanceText, IsNoBarred, IsNoBlocked, IsNoInstance, IsNoSolution}
use Rattle.ctt_files.specs.declared.fault.Fault.{Fault}
use Rattle.ctt_files.specs.declared.fault.Fault.TheVariants.{Machine}
use Rattle.ctt_files.specs.declared.fault.MachineFault.TheVariants.{NoMemory, TooLong}
use Rattle.ctt_files.specs.declared.sides.Sides.{Sides}

-- the fault is that this file is too long, and it has more than 64 MiB
abbrev pub IsTooLong : Held → String Global → Fault → Type 0
IsTooLong held name fault = (fault ≡ Machine (TooLong name)) × Holds held name (λ text. 67108864 < length text)

-- if the input is too long, it has more than 64 MiB
abbrev pub IsInputCause : Option (List ℕ) → InputFault → Type 0
IsInputCause bytes input.TooLong = IfSome bytes (λ text. 67108864 < length text)
IsInputCause bytes met = Unit {0}

-- reading the file of this name, with these bytes if they are known, met a fault, which is reported
-- as this one
pub record IsOfInput (bytes : Option (List ℕ)) (name : String Global) (fault : Fault) : Type 0 where
  pub met : InputFault
  pub is : fault ≡ fault_of_input name met
  pub cause : IsInputCause bytes met

-- the fault comes from reading this file
abbrev pub IsOfFile : Held → String Global → Fault → Type 0
IsOfFile held name = IsOfInput (held (string_bytes name)) name

-- parsing the text meets a fault, which the fault tells, with its place in the text; if the status
-- is 1, the text is not valid
pub record IsNoText {E : Type 0} (Tells : List ℕ → E → Fault → Type 0) (Meets : List ℕ → E → Type 0) (IsNone : List ℕ → Type 0) (text : List ℕ) (fault : Fault) : Type 0 where
  pub met : E
  pub tells : Tells text met fault
  pub meets : Meets text met
  pub is_none : status_of fault ≡ 1 → IsNone text

-- the fault comes from reading this file, or from parsing its text
abbrev pub IsOfText : (List ℕ → Fault → Type 0) → Held → String Global → Fault → Type 0
IsOfText IsNo held name fault = IsOfFile held name fault
    ⊎ ((text : List ℕ) × Holds held name (λ bytes. text ≡ bytes) × IsNo text fault)

-- the fault comes from the file of the instance
abbrev pub IsOfInstance : Held → String Global → Fault → Type 0
IsOfInstance held name fault = IsOfText (IsNoText (IsInstanceFault (string_bytes name)) IsCauseOf IsNoInstance) held name fault

-- the fault comes from the file of the barred rooms of the parsed instance, if one is given
abbrev pub IsOfBarred : Held → Problem → Option (String Global) → Fault → Type 0
IsOfBarred held read None fault = ⊥
IsOfBarred held read (Some name) fault = IsOfText (IsNoText (IsBarredFault (string_bytes name)) (IsBarredCauseOf read) (IsNoBarred read)) held name fault

-- the fault comes from the file of what is blocked in the parsed instance, if one is given
abbrev pub IsOfBlocked : Held → Problem → Option (String Global) → Fault → Type 0
IsOfBlocked held read None fault = ⊥
IsOfBlocked held read (Some name) fault = IsOfText (IsNoText (IsBlockedFault (string_bytes name)) (IsBlockedCauseOf read) (IsNoBlocked read)) held name fault

-- the fault comes from the file of the barred rooms of the parsed instance or, after that is parsed,
-- from that of what is blocked
abbrev pub IsOfSides : Held → Problem → Sides → Fault → Type 0
IsOfSides held read sides fault = IsOfBarred held read sides.barred fault
    ⊎ ((barred : Problem) × IsBarredBy held sides.barred read barred × IsOfBlocked held barred sides.blocked fault)

-- the fault comes from the file of the instance or, after that is parsed, from one of its side files
abbrev pub IsOfInstanceIn : Held → String Global → Sides → Fault → Type 0
IsOfInstanceIn held instance sides fault = IsOfInstance held instance fault
    ⊎ ((read : Problem) × Holds held instance (λ text. IsInstanceText text read) × IsOfSides held read sides fault)

-- the fault comes from one of these files or, after they are parsed, from elsewhere
abbrev pub IsOfInstanceOr : (Held → Problem → Fault → Type 0) → Held → String Global → Sides → Fault → Type 0
IsOfInstanceOr IsOther held instance sides fault = IsOfInstanceIn held instance sides fault
    ⊎ ((problem : Problem) × IsInstanceIn held instance sides problem × IsOther held problem fault)

-- the fault comes from the file of a solution
abbrev pub IsOfSolution : String Global → Held → Problem → Fault → Type 0
IsOfSolution name held problem fault = IsOfText (IsNoText (IsSolutionFault (string_bytes name)) (IsSolutionCauseOf problem) (IsNoSolution problem)) held name fault

-- the fault comes from the file of the start, if one is given
abbrev pub IsOfStart : Option (String Global) → Held → Problem → Fault → Type 0
IsOfStart None held problem fault = ⊥
IsOfStart (Some name) held problem fault = IsOfSolution name held problem fault

-- the fault comes from one of these files, or memory ran out
abbrev pub IsOfFiles : List (String Global) → Held → Fault → Type 0
IsOfFiles [] held fault = fault ≡ Machine NoMemory
IsOfFiles (name ∷ names) held fault = IsOfFile held name fault ⊎ IsOfFiles names held fault
