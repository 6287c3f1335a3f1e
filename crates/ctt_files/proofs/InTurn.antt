-- Files that are read in order.
use Rattle.std.proofs.Common.{◌≡◌, ◌++◌, ◌+◌, ℕ, List, [], ◌∷◌, inl, inr, refl, sym, ap, subst, map, length, arith}
use Rattle.std.specs.Global.{Global}
use Rattle.std.specs.declared.string.String.{String}
use Rattle.std.proofs.lemmas.List.{append-nil, length-append}
use Rattle.ctt_files.specs.Refusals.{IsOfFile, IsOfFiles}
use Rattle.ctt_files.specs.Texts.{Held, Holds, HoldInTurn}
use Rattle.ctt_files.specs.declared.fault.Fault.{Fault}
use Rattle.ctt_files.specs.declared.fault.Fault.TheVariants.{Machine}
use Rattle.ctt_files.specs.declared.fault.MachineFault.TheVariants.{NoMemory}

-- these texts are those of the files already read
pub record IsRead {X : Type 0} (bytes_of : X → List ℕ) (held : Held) (names left : List (String Global)) (texts : List X) : Type 0 where
  pub ahead : (rest : List (List ℕ)) → HoldInTurn held left rest → HoldInTurn held names (map bytes_of texts ++ rest)
  pub among : (fault : Fault) → IsOfFiles left held fault → IsOfFiles names held fault
  pub counted : length texts + length left ≡ length names

pub none_read : {X : Type 0} (bytes_of : X → List ℕ) (held : Held) (names left : List (String Global)) → left ≡ names → IsRead bytes_of held names left []
none_read bytes_of held names left same = record {
  ahead = λ rest hold. subst (λ (files : List (String Global)). HoldInTurn held files rest) same hold;
  among = λ fault is. subst (λ (files : List (String Global)). IsOfFiles files held fault) same is;
  counted = omega (arith, ap length same);
}

one_behind : {X : Type 0} (bytes_of : X → List ℕ) (texts : List X) (text : X) (rest : List (List ℕ)) → map bytes_of (texts ++ text ∷ []) ++ rest ≡ map bytes_of texts ++ (bytes_of text ∷ rest)
one_behind bytes_of [] text rest = refl
one_behind bytes_of (first ∷ texts) text rest = ap (λ later. bytes_of first ∷ later) (one_behind bytes_of texts text rest)

pub one_more_read : {X : Type 0} (bytes_of : X → List ℕ) (held : Held) (names left later : List (String Global)) (name : String Global) (texts : List X) (text : X)
    → left ≡ name ∷ later → Holds held name (λ bytes. bytes_of text ≡ bytes) → IsRead bytes_of held names left texts → IsRead bytes_of held names later (texts ++ text ∷ [])
one_more_read bytes_of held names left later name texts text same holds read = record {
  ahead = λ rest hold. subst (HoldInTurn held names) (sym (one_behind bytes_of texts text rest))
      (read.ahead (bytes_of text ∷ rest) (subst (λ (files : List (String Global)). HoldInTurn held files (bytes_of text ∷ rest)) (sym same) (holds, hold)));
  among = λ fault is. read.among fault (subst (λ (files : List (String Global)). IsOfFiles files held fault) (sym same) (inr is));
  counted =
      omega (arith, ap length same, length-append texts (text ∷ []), read.counted);
}

-- the fault of the next file is one of them
pub next_is_among : {X : Type 0} (bytes_of : X → List ℕ) (held : Held) (names left later : List (String Global)) (name : String Global) (texts : List X) (fault : Fault) → left ≡ name ∷ later
    → IsRead bytes_of held names left texts → IsOfFile held name fault → IsOfFiles names held fault
next_is_among bytes_of held names left later name texts fault same read is = read.among fault (subst (λ (files : List (String Global)). IsOfFiles files held fault) (sym same) (inl is))

-- memory may run out for any files
pub memory_of_files : (names : List (String Global)) (held : Held) → IsOfFiles names held (Machine NoMemory)
memory_of_files [] held = refl
memory_of_files (name ∷ names) held = inr (memory_of_files names held)

nil_of_none : {X : Type 0} (xs : List X) → length xs ≡ 0 → xs ≡ []
nil_of_none [] none = refl
nil_of_none (x ∷ xs) none = absurd (omega (arith, none))

pub all_read : {X : Type 0} (bytes_of : X → List ℕ) (held : Held) (names left : List (String Global)) (texts : List X) → length left ≡ 0 → IsRead bytes_of held names left texts
    → HoldInTurn held names (map bytes_of texts)
all_read bytes_of held names left texts none read =
    subst (HoldInTurn held names) (append-nil (map bytes_of texts)) (read.ahead [] (subst (λ (files : List (String Global)). HoldInTurn held files []) (sym (nil_of_none left none)) tt))

pub all_counted : {X : Type 0} (bytes_of : X → List ℕ) (held : Held) (names left : List (String Global)) (texts : List X) → length left ≡ 0 → IsRead bytes_of held names left texts
    → length texts ≡ length names
all_counted bytes_of held names left texts none read = omega (arith, none, read.counted)
