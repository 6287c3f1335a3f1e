-- Names in a set.
use Rattle.std.proofs.Common.{◌≡◌, ℕ, List, [], ◌∷◌, ◌++◌, map, Bool, true, false, cond, length, position, String, Global, refl, sym, ap, ◌∙◌, ◌<◌, Option, Some, None, arith, nat_lt, not, ◌+◌, suc, ◌||◌}
use Rattle.std.proofs.lemmas.List.{map_push}
use Rattle.std.specs.List.{list_any, position_or_len}
use Rattle.std.specs.Str.{bytes_eq}
use Rattle.std.specs.String.{string_bytes, string_eq}
use Rattle.std.proofs.lemmas.Bool.Decides.{nat_tests, Decides-ltb}
use Rattle.indexmap.specs.IndexSet.{insert_key}
use Rattle.ctt_problem.specs.Problem.{number_in, is_among, place_of}
use Rattle.ctt_problem.proofs.TableLemmas.{bool_case}
use Rattle.ctt_problem.specs.Lists.{with_new}

abbrev pub texts : List (String Global) → List (List ℕ)
texts ks = map string_bytes ks

-- some element passes if the index of the first one is within the list
pub any_by_place : {X : Type 0} (p : X → Bool) (xs : List X) → nat_lt (position_or_len p xs) (length xs) ≡ list_any p xs
any_by_place p [] = refl
any_by_place p (x ∷ xs) = by (p x) (position_or_len p xs) (length xs) (list_any p xs) (any_by_place p xs)
  where
    by : (b : Bool) (n m : ℕ) (any : Bool) → nat_lt n m ≡ any → nat_lt (cond (not b) (1 + n) 0) (suc m) ≡ (b || any)
    by true n m any h = grind (arith, nat_tests)
    by false n m any h = grind (arith, nat_tests)

pub position_among : {X : Type 0} (p : X → Bool) (xs : List X) → position p xs ≡ cond (list_any p xs) (Some (position_or_len p xs)) None
position_among p xs = ap (λ b. cond b (Some (position_or_len p xs)) None) (any_by_place p xs)

-- the test for a name
pub is_found : (name : List ℕ) (ks : List (String Global)) → list_any (λ k. bytes_eq name (string_bytes k)) ks ≡ list_any (bytes_eq name) (texts ks)
is_found name [] = refl
is_found name (k ∷ ks) = rw (is_found name ks) refl

pub is_placed : (name : List ℕ) (ks : List (String Global)) → position (λ k. bytes_eq name (string_bytes k)) ks ≡ number_in (texts ks) name
is_placed name ks = position_among (λ k. bytes_eq name (string_bytes k)) ks ∙ rw (is_found name ks, len ks) refl
  where
    len : (ks : List (String Global)) → position_or_len (λ k. bytes_eq name (string_bytes k)) ks ≡ position_or_len (bytes_eq name) (texts ks)
    len [] = refl
    len (k ∷ ks) = rw (len ks) refl

module _ (k : String Global) (name : List ℕ) (same : string_bytes k ≡ name) where
  test : (x : String Global) → string_eq k x ≡ bytes_eq name (string_bytes x)
  test x = ap (λ n. bytes_eq n (string_bytes x)) same

  pub number_same : (ks : List (String Global)) → position_or_len (string_eq k) ks ≡ position_or_len (bytes_eq name) (texts ks)
  number_same [] = refl
  number_same (x ∷ xs) = rw (test x, number_same xs) refl

  any_same : (ks : List (String Global)) → list_any (string_eq k) ks ≡ list_any (bytes_eq name) (texts ks)
  any_same [] = refl
  any_same (x ∷ xs) = rw (test x, any_same xs) refl

  pub names_same : (ks : List (String Global)) → texts (insert_key string_eq ks k) ≡ with_new bytes_eq (texts ks) name
  names_same ks = rw (any_same ks) (by (list_any (bytes_eq name) (texts ks)))
    where
      by : (b : Bool) → texts (cond b ks (ks ++ k ∷ [])) ≡ cond b (texts ks) (texts ks ++ name ∷ [])
      by true = refl
      by false = map_push string_bytes ks k ∙ ap (λ n. texts ks ++ n ∷ []) same

-- a name in the list has its number, and is not added again
pub number_of_known : (names : List (List ℕ)) (name : List ℕ) (n : ℕ) → number_in names name ≡ Some n → n ≡ place_of names name
number_of_known names name n h = bool_case _ (is_among names name)
    (λ is. some_same n (place_of names name) (sym h ∙ ap (λ b. cond b (Some (place_of names name)) None) is))
    (λ isnt. absurd (none_some n (sym (ap (λ b. cond b (Some (place_of names name)) None) isnt) ∙ h)))
  where
    some_same : (m k : ℕ) → Some m ≡ Some k → m ≡ k
    some_same m k e = cc

    none_some : (m : ℕ) → ◌≡◌ {A = Option ℕ} None (Some m) → ⊥
    none_some m e = cc

pub known_is_among : (names : List (List ℕ)) (name : List ℕ) (n : ℕ) → number_in names name ≡ Some n → is_among names name ≡ true
known_is_among names name n h = bool_case _ (is_among names name)
    (λ is. is)
    (λ isnt. absurd (none_some n (sym (ap (λ b. cond b (Some (place_of names name)) None) isnt) ∙ h)))
  where
    none_some : (m : ℕ) → ◌≡◌ {A = Option ℕ} None (Some m) → ⊥
    none_some m e = cc

pub number_below : (names : List (List ℕ)) (name : List ℕ) (n : ℕ) → number_in names name ≡ Some n → n < length names
number_below names name n h = (Decides-ltb n (length names)).0 (ap (λ k. nat_lt k (length names)) (number_of_known names name n h) ∙ any_by_place (bytes_eq name) names ∙ known_is_among names name n h)
