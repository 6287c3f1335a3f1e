-- What was written of a text.
use Rattle.std.proofs.Common.{ℕ, List, length, OnErr, Option, Result, Ok, Err, arith, subst, sym}
use Rattle.std.specs.Io.KnownBytes.{Appends}
use Rattle.std.proofs.lemmas.List.{take_all}
use Rattle.ctt_files.specs.Output.{AppendsFront}

pub on_err : {T E : Type 0} {P : Type 0} (r : Result T E) → P → OnErr r P
on_err (Ok x) p = tt
on_err (Err e) p = p

-- the whole is a prefix of itself
pub whole_front : (old new : Option (List ℕ)) (bs : List ℕ) → Appends old new bs → AppendsFront old new bs
whole_front old new bs all = (length bs, subst (Appends old new) (sym (take_all (length bs) bs (omega arith))) all)
