-- What a page passes: files and their names, as parts of bytes.
use Rattle.std.specs.Prelude.{◌≡◌, ◌⊎◌, ℕ, Bool, true, false, List, Option, Some, None, drop, take, if◌then◌else◌}
use Rattle.std.specs.Global.{Global}
use Rattle.std.specs.Str.{IsUtf8, bytes_eq}
use Rattle.std.specs.String.{string_bytes}
use Rattle.std.specs.declared.string.String.{String}
use Rattle.ctt_files.specs.Texts.{Held}
use Rattle.ctt_files.specs.declared.fault.Fault.{Fault}
use Rattle.ctt_files.specs.declared.fault.Fault.TheVariants.{Machine, Usage}
use Rattle.ctt_files.specs.declared.fault.MachineFault.TheVariants.{NoMemory}
use Rattle.ctt_files.specs.declared.fault.UsageFault.TheVariants.{WordsNotText}
use Rattle.ctt_web.specs.declared.asked.Asked.{Asked}
use Rattle.ctt_web.specs.declared.asked.Part.{Part}
use Rattle.ctt_web.specs.declared.files.PageFiles.{PageFiles}
use Rattle.ctt_web.specs.declared.names.Names.{Names}

-- ---- files

-- a part of the bytes, as far as they go
unfoldable pub part_of : List ℕ → Part → List ℕ
part_of bytes part = drop part.start (take part.end bytes)

-- the text of the file of this name: the first of the four that has it
unfoldable pub text_of : List ℕ → Asked → List ℕ → Option (List ℕ)
text_of bytes asked name =
    if bytes_eq name (part_of bytes asked.instance.name) then Some (part_of bytes asked.instance.text)
    else (if bytes_eq name (part_of bytes asked.solution.name) then Some (part_of bytes asked.solution.text)
    else (if bytes_eq name (part_of bytes asked.barred.name) then Some (part_of bytes asked.barred.text)
    else (if bytes_eq name (part_of bytes asked.blocked.name) then Some (part_of bytes asked.blocked.text)
    else None)))

-- the bytes of the files by name
abbrev pub held_of : List ℕ → Asked → Held
held_of bytes asked = λ name. text_of bytes asked name

abbrev pub bytes_in : PageFiles → List ℕ
bytes_in files = files.bytes.now

abbrev pub asked_in : PageFiles → Asked
asked_in files = files.asked.now

abbrev pub held_in : PageFiles → Held
held_in files = held_of (bytes_in files) (asked_in files)

-- ---- names

-- the name of a file that may be given
abbrev pub IsGivenAs : Bool → List ℕ → Option (String Global) → Type 0
IsGivenAs false text name = name ≡ None
IsGivenAs true text None = ⊥
IsGivenAs true text (Some name) = string_bytes name ≡ text

-- the names of the files that are checked
pub record AreNames (bytes : List ℕ) (asked : Asked) (names : Names) : Type 0 where
  pub instance : string_bytes names.instance ≡ part_of bytes asked.instance.name
  pub solution : string_bytes names.solution ≡ part_of bytes asked.solution.name
  pub barred : IsGivenAs asked.has_barred (part_of bytes asked.barred.name) names.sides.barred
  pub blocked : IsGivenAs asked.has_blocked (part_of bytes asked.blocked.name) names.sides.blocked

-- the bytes are no text and so no name, or memory ran out
abbrev pub IsNoName : List ℕ → Fault → Type 0
IsNoName text fault = ((fault ≡ Usage WordsNotText) × ¬ IsUtf8 text) ⊎ (fault ≡ Machine NoMemory)

-- a side file has no name
abbrev pub IsNoSideName : List ℕ → Asked → Fault → Type 0
IsNoSideName bytes asked fault = IsNoName (part_of bytes asked.barred.name) fault
    ⊎ IsNoName (part_of bytes asked.blocked.name) fault

-- one of the files that are checked has no name
abbrev pub IsUnnamed : List ℕ → Asked → Fault → Type 0
IsUnnamed bytes asked fault = IsNoName (part_of bytes asked.instance.name) fault
    ⊎ (IsNoSideName bytes asked fault ⊎ IsNoName (part_of bytes asked.solution.name) fault)
