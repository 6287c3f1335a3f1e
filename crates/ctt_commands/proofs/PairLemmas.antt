-- Pairs, line by line, and by their instances.
use Rattle.std.proofs.Common.{◌≡◌, ◌∙◌, ◌++◌, ◌+◌, ◌<◌, ◌||◌, ◌&&◌, ℕ, Bool, true, false, not, cond, List, [], ◌∷◌, Result, Ok, Err, map, refl, sym, ap, subst, append-nil, append_assoc, get_or, length, inl, inr, string_bytes, take, ◌⊎◌}
use Rattle.std.specs.List.{filter, list_any}
use Rattle.std.specs.Str.{IsUtf8, bytes_eq, is_utf8}
use Rattle.std.proofs.lemmas.Str.{IsUtf8-from_is_utf8}
use Rattle.std.proofs.lemmas.List.{map-append, take_more}
use Rattle.std.proofs.lemmas.Slice.Eq.{bytes_eq-Decides}
use Rattle.ctt_text.specs.Words.{words}
use Rattle.ctt_commands.specs.Pairs.{NamePair, firsts, joined_pairs, name_pair, pair_in, pairs_from, with_name}
use Rattle.ctt_commands.specs.declared.pairs.Pair.{Pair}

either : (b : Bool) → (b ≡ true) ⊎ (b ≡ false)
either true = inl refl
either false = inr refl

-- ---- line by line

-- pairs before those of the lines that are left
abbrev pub pairs_ahead : List NamePair → Result (List NamePair) (ℕ × ℕ) → Result (List NamePair) (ℕ × ℕ)
pairs_ahead pairs others = joined_pairs 0 (Ok pairs) others

pub none_before : (others : Result (List NamePair) (ℕ × ℕ)) → pairs_ahead [] others ≡ others
none_before (Ok pairs) = refl
none_before (Err fault) = refl

pairs_joined : (n : ℕ) (pairs more : List NamePair) (others : Result (List NamePair) (ℕ × ℕ)) → pairs_ahead pairs (joined_pairs n (Ok more) others) ≡ pairs_ahead (pairs ++ more) others
pairs_joined n pairs more (Ok rest) = ap (λ ps. Ok ps) (sym (append_assoc pairs more rest))
pairs_joined n pairs more (Err fault) = refl

-- one more line
pub line_more : (n : ℕ) (line : List ℕ) (left later all : List (List ℕ)) (old new more : List NamePair) → left ≡ line ∷ later → pair_in (words line) ≡ Ok more → new ≡ old ++ more
    → pairs_ahead old (pairs_from n left) ≡ pairs_from 1 all → pairs_ahead new (pairs_from (n + 1) later) ≡ pairs_from 1 all
line_more n line left later all old new more same is grown before =
    ap (λ ps. pairs_ahead ps (pairs_from (n + 1) later)) grown ∙ sym (pairs_joined n old more (pairs_from (n + 1) later))
    ∙ ap (λ p. pairs_ahead old (joined_pairs n p (pairs_from (n + 1) later))) (sym is) ∙ ap (λ ls. pairs_ahead old (pairs_from n ls)) (sym same) ∙ before

-- a line with a fault
pub line_fails : (n number : ℕ) (line : List ℕ) (left later all : List (List ℕ)) (old : List NamePair) → left ≡ line ∷ later → pair_in (words line) ≡ Err number
    → pairs_ahead old (pairs_from n left) ≡ pairs_from 1 all → pairs_from 1 all ≡ Err (number, n)
line_fails n number line left later all old same is before =
    sym before ∙ ap (λ ls. pairs_ahead old (pairs_from n ls)) same ∙ ap (λ p. pairs_ahead old (joined_pairs n p (pairs_from (n + 1) later))) is

-- no line is left
pub lines_end : (n : ℕ) (left all : List (List ℕ)) (pairs : List NamePair) → left ≡ [] → pairs_ahead pairs (pairs_from n left) ≡ pairs_from 1 all → pairs_from 1 all ≡ Ok pairs
lines_end n left all pairs none before = sym before ∙ ap (λ ls. pairs_ahead pairs (pairs_from n ls)) none ∙ ap (λ ps. Ok ps) (append-nil pairs)

-- ---- the words of a line

pub no_utf8 : (bs : List ℕ) → (IsUtf8 bs → ⊥) → is_utf8 bs ≡ false
no_utf8 bs no' = elim (either (is_utf8 bs)) [
  | inl yes' ↦ (absurd (no' (IsUtf8-from_is_utf8 bs yes')))
  | inr none ↦ none
]

-- ---- by their instances

pub any_mapped : {X : Type 0} (f : X → List ℕ) (p : List ℕ → Bool) (xs : List X) → list_any p (map f xs) ≡ list_any (λ x. p (f x)) xs
any_mapped f p [] = refl
any_mapped f p (x ∷ xs) = ap (λ b. p (f x) || b) (any_mapped f p xs)

-- what is equal to one name is not equal to another
other_name : (n name other : List ℕ) → bytes_eq n name ≡ false → bytes_eq n other ≡ true → bytes_eq other name ≡ false
other_name n name other differ same = subst (λ (t : List ℕ). bytes_eq t name ≡ false) ((bytes_eq-Decides n other).0 same) differ

any_kept : (n name : List ℕ) → bytes_eq n name ≡ false → (xs : List (List ℕ)) → list_any (λ o. bytes_eq o name) (filter (λ o. not (bytes_eq n o)) xs) ≡ list_any (λ o. bytes_eq o name) xs
any_kept n name differ [] = refl
any_kept n name differ (x ∷ xs) = elim (either (bytes_eq n x)) [
  | inl same ↦ (rw same (any_kept n name differ xs ∙ ap (λ b. b || list_any (λ o. bytes_eq o name) xs) (sym (other_name n name x differ same))))
  | inr other ↦ (rw other (ap (λ b. bytes_eq x name || b) (any_kept n name differ xs)))
]

filter_both : (p : List ℕ → Bool) (xs ys : List (List ℕ)) → filter p (xs ++ ys) ≡ filter p xs ++ filter p ys
filter_both p [] ys = refl
filter_both p (x ∷ xs) ys = elim (either (p x)) [
  | inl yes' ↦ (rw yes' (ap (λ zs. x ∷ zs) (filter_both p xs ys)))
  | inr no' ↦ (rw no' (filter_both p xs ys))
]

-- a name is left out of names, one of which is added unless it is among them
left_out : (n name : List ℕ) → bytes_eq n name ≡ false → (xs : List (List ℕ)) (known : Bool) → known ≡ list_any (λ o. bytes_eq o name) xs
    → n ∷ filter (λ o. not (bytes_eq n o)) (cond known xs (xs ++ name ∷ [])) ≡ cond known (n ∷ filter (λ o. not (bytes_eq n o)) xs) ((n ∷ filter (λ o. not (bytes_eq n o)) xs) ++ name ∷ [])
left_out n name differ xs true is = refl
left_out n name differ xs false is =
    ap (λ zs. n ∷ zs) (filter_both (λ o. not (bytes_eq n o)) xs (name ∷ []) ∙ rw differ refl)

known_out : (n name : List ℕ) → bytes_eq n name ≡ true → (xs : List (List ℕ)) (known : Bool)
    → n ∷ filter (λ o. not (bytes_eq n o)) (cond known xs (xs ++ name ∷ [])) ≡ n ∷ filter (λ o. not (bytes_eq n o)) xs
known_out n name same xs true = refl
known_out n name same xs false =
    ap (λ zs. n ∷ zs) (filter_both (λ o. not (bytes_eq n o)) xs (name ∷ []) ∙ rw same (append-nil (filter (λ o. not (bytes_eq n o)) xs)))

pub firsts_more : (names : List (List ℕ)) (name : List ℕ) → firsts (names ++ name ∷ []) ≡ with_name name (firsts names)
firsts_more [] name = refl
firsts_more (n ∷ ns) name =
    let known : Bool = list_any (λ o. bytes_eq o name) (firsts ns) in
    ap (λ zs. n ∷ filter (λ o. not (bytes_eq n o)) zs) (firsts_more ns name)
    ∙ elim (either (bytes_eq n name)) [
      | inl same ↦ (known_out n name same (firsts ns) known ∙ rw same refl)
      | inr differ ↦ (left_out n name differ (firsts ns) known refl ∙ rw (differ, any_kept n name differ (firsts ns)) refl)
    ]

-- ---- the names in pairs

pub names_more : (pairs : List Pair) (k : ℕ) (pair : Pair) → k < length pairs → pair ≡ get_or pairs k pair
    → firsts (map (λ (p : NamePair). p.0) (map name_pair (take (k + 1) pairs))) ≡ with_name (string_bytes pair.instance) (firsts (map (λ (p : NamePair). p.0) (map name_pair (take k pairs))))
names_more pairs k pair lt is =
    ap (λ ps. firsts (map (λ (p : NamePair). p.0) (map name_pair ps))) (take_more pairs k pair lt ∙ ap (λ (p : Pair). take k pairs ++ p ∷ []) (sym is))
    ∙ ap (λ ps. firsts (map (λ (p : NamePair). p.0) ps)) (map-append name_pair (take k pairs) (pair ∷ []))
    ∙ ap firsts (map-append (λ (p : NamePair). p.0) (map name_pair (take k pairs)) (name_pair pair ∷ []))
    ∙ firsts_more (map (λ (p : NamePair). p.0) (map name_pair (take k pairs))) (string_bytes pair.instance)
