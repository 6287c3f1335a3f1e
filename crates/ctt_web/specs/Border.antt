-- What crosses between the module and a page.
use Rattle.std.specs.Prelude.{◌≡◌, ◌≤◌, ◌++◌, ◌⊎◌, ℕ, List, length, take}
use Rattle.ctt_files.specs.Faults.{line_of, point_of, status_of}
use Rattle.ctt_files.specs.declared.fault.Fault.{Fault}
use Rattle.ctt_files.specs.declared.fault.Fault.TheVariants.{Machine}
use Rattle.ctt_files.specs.declared.fault.MachineFault.TheVariants.{NoMemory}
use Rattle.ctt_web.specs.Answers.{IsMet, IsRefused}
use Rattle.ctt_web.specs.declared.asked.Asked.{Asked}

-- the buffer begins with this text if it fits, and the length is told in any case
pub record IsHandedOut (text : List ℕ) (told : ℕ) (buffer : List ℕ) : Type 0 where
  pub told_length : told ≡ length text
  pub begins : length text ≤ length buffer → take (length text) buffer ≡ text

-- P holds of a text that is handed out
pub record HandsOut (P : List ℕ → Type 0) (told : ℕ) (buffer : List ℕ) : Type 0 where
  pub text : List ℕ
  pub holds : P text
  pub handed_out : IsHandedOut text told buffer

-- what is said of a fault: its line, and that of its place in the file
abbrev pub said_of : Fault → List ℕ
said_of fault = line_of fault ++ point_of fault

-- the text is what is said of this fault, and the status is its
pub record IsSaidOf (fault : Fault) (status : ℕ) (text : List ℕ) : Type 0 where
  pub is_status : status ≡ status_of fault
  pub is_text : text ≡ said_of fault

-- the fault is said, or that memory ran out for what is said
abbrev pub IsSaid : Fault → ℕ → ℕ → List ℕ → Type 0
IsSaid fault status told buffer = HandsOut (IsSaidOf fault status) told buffer
    ⊎ HandsOut (IsSaidOf (Machine NoMemory) status) told buffer

-- the text says why the files that a page passes are refused
pub record IsRefusal (bytes : List ℕ) (asked : Asked) (status : ℕ) (text : List ℕ) : Type 0 where
  pub fault : Fault
  pub cause : IsRefused bytes asked fault
  pub met : IsMet fault
  pub said : IsSaidOf fault status text
