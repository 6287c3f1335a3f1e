-- Lists of distinct elements, and the indices of names.
use Rattle.std.proofs.Common.{◌≡◌, ℕ, zero, suc, get_or, ◌+◌, ◌≤◌, ◌<◌, List, [], ◌∷◌, ◌++◌, length, map, Bool, true, false, cond, not, ◌||◌, refl, sym, ap, ◌∙◌, append_assoc, arith, Some, None, position}
use Rattle.std.specs.Prelude.{fold, filter}
use Rattle.std.specs.List.{list_any, position_or_len, AllByRecursion as Each}
use Rattle.std.specs.Str.{bytes_eq}
use Rattle.std.proofs.lemmas.List.{append-nil}
use Rattle.std.proofs.lemmas.Bool.{true≢false, both_ways, not-true, or_left, or_right, ltb-true}
use Rattle.std.proofs.lemmas.List.Folds.{list_any-append}
use Rattle.std.proofs.lemmas.Slice.Eq.{bytes_eq-Decides}
use Rattle.ctt_problem.specs.Lists.{Pairwise, each_once, with_new}
use Rattle.ctt_problem.specs.Problem.{is_among, place_of}
use Rattle.ctt_problem.proofs.NameLemmas.{any_by_place}
use Rattle.ctt_problem.proofs.TableLemmas.{bool_case}
use Rattle.ctt_problem.proofs.TimetableLemmas.{Each-map}
use Rattle.std.proofs.lemmas.Grind.{common_steps}
use Rattle.std.proofs.lemmas.List.Sums.{prefix_len-le-length}

-- what holds of each value of a function, and of each element of a sublist
pub Each-mapped : {X Y : Type 0} (P : Y → Type 0) (f : X → Y) (xs : List X) → Each (λ x. P (f x)) xs → Each P (map f xs)
Each-mapped P f [] each = tt
Each-mapped P f (x ∷ xs) each = (each.0, Each-mapped P f xs each.1)

pub Each-front : {X : Type 0} (P : X → Type 0) (xs ys : List X) → Each P (xs ++ ys) → Each P xs
Each-front P [] ys each = tt
Each-front P (x ∷ xs) ys each = (each.0, Each-front P xs ys each.1)

pub Each-rest : {X : Type 0} (P : X → Type 0) (xs ys : List X) → Each P (xs ++ ys) → Each P ys
Each-rest P [] ys each = each
Each-rest P (x ∷ xs) ys each = Each-rest P xs ys each.1

-- what holds of each element holds after a filter
Each-filter : {X : Type 0} (P : X → Type 0) (test : X → Bool) (xs : List X) → Each P xs → Each P (filter test xs)
Each-filter P test [] each = tt
Each-filter P test (x ∷ xs) each = bool_case _ (test x) (λ is. rw is (each.0, Each-filter P test xs each.1)) (λ isnt. rw isnt (Each-filter P test xs each.1))

-- what holds of each pair of elements holds after a filter
Pairwise-filter : {X : Type 0} (R : X → X → Type 0) (test : X → Bool) (xs : List X) → Pairwise R xs → Pairwise R (filter test xs)
Pairwise-filter R test [] pairs = tt
Pairwise-filter R test (x ∷ xs) pairs = bool_case _ (test x) (λ is. rw is (Each-filter (R x) test xs pairs.0, Pairwise-filter R test xs pairs.1)) (λ isnt. rw isnt (Pairwise-filter R test xs pairs.1))

-- the elements that a filter leaves pass its test
Each-passes : {X : Type 0} (test : X → Bool) (xs : List X) → Each (λ x. test x ≡ true) (filter test xs)
Each-passes test [] = tt
Each-passes test (x ∷ xs) = bool_case _ (test x) (λ is. rw is (is, Each-passes test xs)) (λ isnt. rw isnt (Each-passes test xs))

-- they are no more than before
length-filter : {X : Type 0} (test : X → Bool) (xs : List X) → length (filter test xs) ≤ length xs
length-filter test [] = omega arith
length-filter test (x ∷ xs) =
    let rest : length (filter test xs) ≤ length xs = length-filter test xs in
    bool_case _ (test x) (λ is. rw is (omega arith)) (λ isnt. rw isnt (omega arith))

module _ {X : Type 0} (same : X → X → Bool) (sound : (x y : X) → same x y ≡ true → x ≡ y) where
  -- the elements that are not in s
  abbrev left : List X → List X → List X
  left s xs = filter (λ y. not (list_any (same y) s)) xs

  -- the elements other than x
  abbrev others : X → List X → List X
  others x xs = filter (λ y. not (same y x)) xs

  -- an element that is in the list already need not be removed again
  twice : (s : List X) (x : X) → list_any (same x) s ≡ true → (xs : List X) → left s xs ≡ left s (others x xs)
  twice s x there [] = refl
  twice s x there (y ∷ ys) = bool_case _ (same y x)
      (λ is.
      let gone : list_any (same y) s ≡ true = ap (λ q. list_any (same q) s) (sound y x is) ∙ there in
      rw (is, gone) (twice s x there ys))
      (λ isnt. rw isnt (ap (λ r. cond (not (list_any (same y) s)) (y ∷ r) r) (twice s x there ys)))

  -- one more element to be removed
  one_out : (s : List X) (x : X) (xs : List X) → left (s ++ x ∷ []) xs ≡ left s (others x xs)
  one_out s x [] = refl
  one_out s x (y ∷ ys) = bool_case _ (same y x)
      (λ is.
      let gone : list_any (same y) (s ++ x ∷ []) ≡ true = list_any-append (same y) s (x ∷ []) ∙ at_end (list_any (same y) s) (same y x) is in
      rw (is, gone) (one_out s x ys))
      (λ isnt.
      let stays : list_any (same y) (s ++ x ∷ []) ≡ list_any (same y) s = list_any-append (same y) s (x ∷ []) ∙ not_at_end (list_any (same y) s) (same y x) isnt in
      rw (isnt, stays) (ap (λ r. cond (not (list_any (same y) s)) (y ∷ r) r) (one_out s x ys)))
    where
      at_end : (a b : Bool) → b ≡ true → (a || (b || false)) ≡ true
      at_end true b h = refl
      at_end false b h = rw h refl

      not_at_end : (a b : Bool) → b ≡ false → (a || (b || false)) ≡ a
      not_at_end true b h = refl
      not_at_end false b h = rw h refl

  -- a list that grew by the new elements of xs has those of xs that it did not have
  pub grown : (xs s : List X) → fold (with_new same) s xs ≡ s ++ left s (each_once same xs)
  grown [] s = sym (append-nil s)
  grown (x ∷ xs) s = bool_case _ (list_any (same x) s)
      (λ there. rw there (grown xs s ∙ ap (λ r. s ++ r) (twice s x there (each_once same xs))))
      (λ new. rw new (grown xs (s ++ x ∷ []) ∙ append_assoc s (x ∷ []) (left (s ++ x ∷ []) (each_once same xs)) ∙ ap (λ r. s ++ x ∷ r) (one_out s x (each_once same xs))))

  -- the empty list has none of them
  all_left : (xs : List X) → left [] xs ≡ xs
  all_left [] = refl
  all_left (x ∷ xs) = ap (λ r. x ∷ r) (all_left xs)

  -- a list that grew from the empty list has each element once
  pub grown_once : (xs : List X) → fold (with_new same) [] xs ≡ each_once same xs
  grown_once xs = grown xs [] ∙ all_left (each_once same xs)

  -- what holds of each element holds of the distinct elements
  pub once_each : (P : X → Type 0) (xs : List X) → Each P xs → Each P (each_once same xs)
  once_each P [] each = tt
  once_each P (x ∷ xs) each = (each.0, Each-filter P (λ y. not (same y x)) (each_once same xs) (once_each P xs each.1))

  -- inequality is symmetric
  pub apart_turned : (x y : X) → same x y ≡ false → same y x ≡ false
  apart_turned x y h = bool_case _ (same y x)
      (λ is.
      let e : y ≡ x = sound y x is in
      absurd (both_ways (same x y) h (ap (λ q. same x q) e ∙ ap (λ q. same q x) (sym e) ∙ is)))
      (λ isnt. isnt)

  -- the distinct elements differ from each other
  pub once_apart : (xs : List X) → Pairwise (λ x y. same x y ≡ false) (each_once same xs)
  once_apart [] = tt
  once_apart (x ∷ xs) = (
    Each-map (λ y. not (same y x) ≡ true) (λ y. same x y ≡ false) (λ y h. apart_turned y x (not-true (same y x) h)) (others x (each_once same xs)) (Each-passes (λ y. not (same y x)) (each_once same xs)),
    Pairwise-filter (λ x y. same x y ≡ false) (λ y. not (same y x)) (each_once same xs) (once_apart xs),
  )

  -- an element other than x is found also after x is removed
  found_without : (x z : X) → same z x ≡ false → (ys : List X) → list_any (same z) (others x ys) ≡ list_any (same z) ys
  found_without x z isnt [] = refl
  found_without x z isnt (y ∷ ys) = bool_case _ (same y x)
      (λ gone.
      let other : same z y ≡ false = ap (λ q. same z q) (sound y x gone) ∙ isnt in
      rw (gone, other) (found_without x z isnt ys))
      (λ stays. rw stays (ap (λ b. same z y || b) (found_without x z isnt ys)))

  -- each element is among the distinct elements
  pub once_found : (xs : List X) (z : X) → list_any (same z) (each_once same xs) ≡ list_any (same z) xs
  once_found [] z = refl
  once_found (x ∷ xs) z = bool_case _ (same z x)
      (λ is. rw is refl)
      (λ isnt. rw isnt (found_without x z isnt (each_once same xs) ∙ once_found xs z))

  -- they are no more than before
  pub once_few : (xs : List X) → length (each_once same xs) ≤ length xs
  once_few [] = omega arith
  once_few (x ∷ xs) = omega (arith, length-filter (λ y. not (same y x)) (each_once same xs), once_few xs)

  -- the index of an element stays the same or decreases if others are removed
  place_left : (p q : X → Bool) → ((y : X) → p y ≡ true → q y ≡ true) → (ys : List X) → position_or_len p (filter q ys) ≤ position_or_len p ys
  place_left p q stays [] = omega arith
  place_left p q stays (y ∷ ys) =
      let rest : position_or_len p (filter q ys) ≤ position_or_len p ys = place_left p q stays ys in
      bool_case _ (p y)
      (λ is. rw (stays y is, is) (omega arith))
      (λ isnt. bool_case _ (q y) (λ kept. rw (kept, isnt) (omega (arith, rest))) (λ gone. rw (gone, isnt) (omega (arith, rest))))

  -- the index of a distinct element is at most its first index in the list
  pub once_place : ((x : X) → same x x ≡ true) → (d : X) (xs : List X) (k : ℕ) → k < length xs → position_or_len (same (get_or xs k d)) (each_once same xs) ≤ k
  once_place itself d [] k lt = absurd (omega (arith, lt))
  once_place itself d (x ∷ xs) zero lt = rw (itself x) (omega arith)
  once_place itself d (x ∷ xs) (suc k) lt =
      let z : X = get_or xs k d in
      let before : position_or_len (same z) (each_once same xs) ≤ k = once_place itself d xs k (omega (arith, lt)) in
      bool_case _ (same z x)
      (λ is. rw is (omega arith))
      (λ isnt.
      let stays : (y : X) → same z y ≡ true → not (same y x) ≡ true = λ y is. ap (λ q. not (same q x)) (sym (sound z y is)) ∙ ap not isnt in
      rw isnt (omega (arith, before, place_left (same z) (λ y. not (same y x)) stays (each_once same xs))))

-- the index of an element that is found is within the list
pub place_below : {X : Type 0} (test : X → Bool) (xs : List X) → list_any test xs ≡ true → position_or_len test xs < length xs
place_below test xs h = ltb-true (position_or_len test xs) (length xs) (any_by_place test xs ∙ h)

-- the index of a name is unchanged if names are appended
place_kept : {X : Type 0} (test : X → Bool) (xs ys : List X) → list_any test xs ≡ true → position_or_len test (xs ++ ys) ≡ position_or_len test xs
place_kept test [] ys h = absurd (true≢false (sym h))
place_kept test (x ∷ xs) ys h = by (test x) h (place_kept test xs ys)
  where
    by : (b : Bool) → (b || list_any test xs) ≡ true → (list_any test xs ≡ true → position_or_len test (xs ++ ys) ≡ position_or_len test xs)
        → cond (not b) (1 + position_or_len test (xs ++ ys)) 0 ≡ cond (not b) (1 + position_or_len test xs) 0
    by true h rest = refl
    by false h rest = ap (λ n. 1 + n) (rest h)

-- the index of a new name is the length of the list before it
pub place_new : {X : Type 0} (test : X → Bool) (xs : List X) (y : X) (ys : List X) → list_any test xs ≡ false → test y ≡ true → position_or_len test (xs ++ y ∷ ys) ≡ position_or_len test xs
place_new test [] y ys h is = rw is refl
place_new test (x ∷ xs) y ys h is = by (test x) h (λ k. place_new test xs y ys k is)
  where
    by : (b : Bool) → (b || list_any test xs) ≡ false → (list_any test xs ≡ false → position_or_len test (xs ++ y ∷ ys) ≡ position_or_len test xs)
        → cond (not b) (1 + position_or_len test (xs ++ y ∷ ys)) 0 ≡ cond (not b) (1 + position_or_len test xs) 0
    by true h rest = refl
    by false h rest = ap (λ n. 1 + n) (rest h)

-- bytes_eq is true only for equal lists
pub same_bytes : (xs : List ℕ) → bytes_eq xs xs ≡ true
same_bytes xs = (bytes_eq-Decides xs xs).1 refl

pub bytes_sound : (xs ys : List ℕ) → bytes_eq xs ys ≡ true → xs ≡ ys
bytes_sound xs ys h = (bytes_eq-Decides xs ys).0 h

-- each name is found among the names
pub each_among : (names : List (List ℕ)) → Each (λ name. is_among names name ≡ true) names
each_among [] = tt
each_among (name ∷ names) = (
  or_left (bytes_eq name name) (is_among names name) (same_bytes name),
  Each-map (λ n. is_among names n ≡ true) (λ n. is_among (name ∷ names) n ≡ true) (λ n h. or_right (bytes_eq n name) (is_among names n) h) names (each_among names),
)

-- the number of a name is unchanged in the list of all names
pub place_grown : (name : List ℕ) (names more : List (List ℕ)) → place_of (fold (with_new bytes_eq) (with_new bytes_eq names name) more) name ≡ place_of names name
place_grown name names more = bool_case _ (is_among names name)
    (λ there. rw there (ap (λ q. place_of q name) (grown bytes_eq bytes_sound more names) ∙ place_kept (bytes_eq name) names _ there))
    (λ new. rw new (ap (λ q. place_of q name) (grown bytes_eq bytes_sound more (names ++ name ∷ []) ∙ append_assoc names (name ∷ []) _) ∙ place_new (bytes_eq name) names name _ new (same_bytes name)))

-- some element of a mapped list passes
pub any_mapped : {X Y : Type 0} (p : Y → Bool) (f : X → Y) (xs : List X) → list_any p (map f xs) ≡ list_any (λ x. p (f x)) xs
any_mapped p f [] = refl
any_mapped p f (x ∷ xs) = ap (λ b. p (f x) || b) (any_mapped p f xs)

-- an index is found if the rest begins with such an element
pub position_is : {X : Type 0} (p : X → Bool) (xs : List X) (i : ℕ) → position p xs ≡ Some i → (i ≡ position_or_len p xs) × (i < length xs)
position_is p xs i h = grind (arith, common_steps)

pub position_none : {X : Type 0} (p : X → Bool) (xs : List X) → position p xs ≡ None → position_or_len p xs ≡ length xs
position_none p xs h = grind (arith, common_steps, prefix_len-le-length (λ x. not (p x)) xs)
