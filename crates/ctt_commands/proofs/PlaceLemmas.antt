-- The place of a word or a byte that is asked for.
use Rattle.std.proofs.Common.{◌≡◌, inl, inr, ℕ, Bool, List, IfErr, IfOk, Result, Ok, Err, string_bytes, subst}
use Rattle.std.specs.Global.{Global}
use Rattle.std.specs.declared.string.String.{String}
use Rattle.ctt_files.specs.declared.fault.ContentsFault.TheVariants.{Ends}
use Rattle.ctt_files.specs.declared.fault.Fault.{Fault}
use Rattle.ctt_files.specs.declared.fault.Fault.TheVariants.{Contents, Machine}
use Rattle.ctt_files.specs.declared.fault.MachineFault.TheVariants.{NoMemory}
use Rattle.ctt_commands.specs.Places.{HasNoPlace, IsUnfound, end_line}

-- the same file and text
pub unfound_in : (name file seen text : List ℕ) (n : ℕ) (byte : Bool) (fault : Fault) → name ≡ file → seen ≡ text → IsUnfound name seen n byte fault → IsUnfound file text n byte fault
unfound_in name file seen text n byte fault same_file same_text is =
    subst (λ (f : List ℕ). IsUnfound f text n byte fault) same_file (subst (λ (t : List ℕ). IsUnfound name t n byte fault) same_text is)

-- a fault made of the line of where the text ends
pub unfound_at : {E : Type 0} (line : Result (String Global) E) (file text : List ℕ) (n : ℕ) (byte : Bool) (fault : Fault) → IfOk line (λ line. fault ≡ Contents (Ends line))
    → IfErr line (λ error. fault ≡ Machine NoMemory) → IfOk line (λ line. string_bytes line ≡ end_line file text n byte) → HasNoPlace text n byte → IsUnfound file text n byte fault
unfound_at (Ok line) file text n byte fault told memory is none = inl ((line, is, told), none)
unfound_at (Err error) file text n byte fault told memory is none = inr memory
