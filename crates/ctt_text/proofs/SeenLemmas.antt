-- Teachers are numbered as they are first named, and no more marks are made than pairs are listed.
use Rattle.std.proofs.Common.{◌≡◌, ◌≢◌, ℕ, zero, suc, ◌+◌, ◌*◌, ◌<◌, ◌≤◌, ◌==◌, List, [], ◌∷◌, ◌++◌, length, map, get_or, Bool, true, false, cond, not, ◌||◌, refl, sym, ap, subst, ◌∙◌, append_assoc, arith}
use Rattle.std.specs.Prelude.{filter, slice_set, nat_lt}
use Rattle.std.specs.List.{list_any, range_with_len, AllByRecursion as Each}
use Rattle.std.specs.Str.{bytes_eq}
use Rattle.std.proofs.lemmas.Bool.{true≢false, and_parts, eqb-true, eq-eqb, ne_eqb, ltb-true, ltb-false, or_left, or_right}
use Rattle.std.proofs.lemmas.List.{length-append, get_or_past}
use Rattle.ctt_problem.specs.Lists.{each_once}
use Rattle.ctt_problem.specs.Named.{AreNew, AreDistinct}
use Rattle.ctt_problem.specs.Problem.{Problem, is_among, place_of}
use Rattle.ctt_problem.proofs.ListLaws.{once_each, bytes_sound, same_bytes, place_new}
use Rattle.ctt_problem.proofs.MarkLaws.{Row, row_of}
use Rattle.ctt_problem.proofs.TableLemmas.{bool_case}
use Rattle.ctt_problem.proofs.TimetableLemmas.{Each-map}
use Rattle.ctt_text.specs.Numbers.{value}
use Rattle.ctt_text.specs.InstanceText.{CourseWords, PairWords, facts_of, is_listed}

-- a filter of mapped elements
filter_mapped : (f : List ℕ → ℕ) (p : ℕ → Bool) (q : List ℕ → Bool) (xs : List (List ℕ)) → Each (λ x. p (f x) ≡ q x) xs → filter p (map f xs) ≡ map f (filter q xs)
filter_mapped f p q [] same = refl
filter_mapped f p q (x ∷ xs) same = bool_case _ (q x)
    (λ is. rw (same.0, is) (ap (λ r. f x ∷ r) (filter_mapped f p q xs same.1)))
    (λ isnt. rw (same.0, isnt) (filter_mapped f p q xs same.1))

-- two names with one number are the same, if one of them is among the names
same_place : (ts : List (List ℕ)) (x y : List ℕ) → is_among ts x ≡ true → place_of ts y ≡ place_of ts x → y ≡ x
same_place [] x y among same = absurd (true≢false (sym among))
same_place (t ∷ ts) x y among same = by (bytes_eq x t) refl (bytes_eq y t) refl (same_place ts x y)
  where
    by : (a : Bool) → bytes_eq x t ≡ a → (b : Bool) → bytes_eq y t ≡ b → (is_among ts x ≡ true → place_of ts y ≡ place_of ts x → y ≡ x) → y ≡ x
    by true x_is true y_is rest = bytes_sound y t y_is ∙ sym (bytes_sound x t x_is)
    by true x_is false y_is rest = absurd (apart (rw (x_is, y_is) at same))
      where
        apart : 1 + place_of ts y ≡ 0 → ⊥
        apart e = omega arith
    by false x_is true y_is rest = absurd (apart (rw (x_is, y_is) at same))
      where
        apart : 0 ≡ 1 + place_of ts x → ⊥
        apart e = omega arith
    by false x_is false y_is rest = rest (rw x_is at among) (less (rw (x_is, y_is) at same))
      where
        less : 1 + place_of ts y ≡ 1 + place_of ts x → place_of ts y ≡ place_of ts x
        less e = omega arith

-- the numbers of two names differ where the names do
tells : (ts : List (List ℕ)) (x y : List ℕ) → is_among ts x ≡ true → (place_of ts y == place_of ts x) ≡ bytes_eq y x
tells ts x y among = bool_case _ (bytes_eq y x)
    (λ is. rw is (eq-eqb (place_of ts y) (place_of ts x) (ap (place_of ts) (bytes_sound y x is))))
    (λ isnt. rw isnt (bool_case _ (place_of ts y == place_of ts x)
    (λ same. absurd (true≢false (sym (same_bytes x) ∙ ap (λ z. bytes_eq z x) (sym (same_place ts x y among (eqb-true (place_of ts y) (place_of ts x) same))) ∙ isnt)))
    (λ other. other)))

-- the numbers of names, each once, are the numbers of the names, each once
once_placed : (ts xs : List (List ℕ)) → Each (λ x. is_among ts x ≡ true) xs → each_once ◌==◌ (map (place_of ts) xs) ≡ map (place_of ts) (each_once bytes_eq xs)
once_placed ts [] known = refl
once_placed ts (x ∷ xs) known =
    ap (λ r. place_of ts x ∷ filter (λ n. not (n == place_of ts x)) r) (once_placed ts xs known.1)
    ∙ ap (λ r. place_of ts x ∷ r) (filter_mapped (place_of ts) (λ n. not (n == place_of ts x)) (λ y. not (bytes_eq y x)) (each_once bytes_eq xs)
    (Each-map (λ y. is_among ts y ≡ true) (λ y. not (place_of ts y == place_of ts x) ≡ not (bytes_eq y x)) (λ y is. ap not (tells ts x y known.0)) (each_once bytes_eq xs) (once_each bytes_eq bytes_sound (λ y. is_among ts y ≡ true) xs known.1)))

-- a name that is not among others is past them
past : (x : List ℕ) (ts : List (List ℕ)) → is_among ts x ≡ false → place_of ts x ≡ length ts
past x [] h = refl
past x (t ∷ ts) h = by (bytes_eq x t) h (past x ts)
  where
    by : (b : Bool) → (b || is_among ts x) ≡ false → (is_among ts x ≡ false → place_of ts x ≡ length ts) → cond (not b) (1 + place_of ts x) 0 ≡ suc (length ts)
    by true h rest = absurd (true≢false h)
    by false h rest = omega (arith, rest h)

-- distinct names are numbered in their order
in_order : (before ts : List (List ℕ)) → AreNew before ts → map (place_of (before ++ ts)) ts ≡ range_with_len (length before) (length ts)
in_order before [] new = refl
in_order before (t ∷ ts) new =
    let here : place_of (before ++ t ∷ ts) t ≡ length before = place_new (bytes_eq t) before t ts new.0 (same_bytes t) ∙ past t before new.0 in
    let on : map (place_of (before ++ t ∷ ts)) ts ≡ range_with_len (length before + 1) (length ts) =
    subst (λ ns. map (place_of ns) ts ≡ range_with_len (length before + 1) (length ts)) (append_assoc before (t ∷ []) ts)
    (in_order (before ++ t ∷ []) ts new.1 ∙ ap (λ n. range_with_len n (length ts)) (length-append before (t ∷ []))) in
    rw (here, on) refl

-- the numbers of the teachers ascend from 0 as the courses first name them
pub numbered_as_seen : (cs : List CourseWords) (ts : List (List ℕ)) → ts ≡ each_once bytes_eq (map (λ c. c.teacher) cs) → AreDistinct ts → Each (λ name. is_among ts name ≡ true) (map (λ c. c.teacher) cs)
    → each_once ◌==◌ (map (λ f. f.teacher) (map (facts_of ts) cs)) ≡ range_with_len 0 (length ts)
numbered_as_seen cs ts once distinct known =
    ap (each_once ◌==◌) (numbers cs) ∙ once_placed ts (map (λ c. c.teacher) cs) known ∙ ap (map (place_of ts)) (sym once) ∙ in_order [] ts distinct
  where
    numbers : (cs : List CourseWords) → map (λ f. f.teacher) (map (facts_of ts) cs) ≡ map (place_of ts) (map (λ c. c.teacher) cs)
    numbers [] = refl
    numbers (c ∷ cs) = ap (λ r. place_of ts c.teacher ∷ r) (numbers cs)

-- how many marks there are
abbrev marked : List Bool → ℕ
marked t = length (filter (λ b. b) t)

-- one mark less
cleared : (t : List Bool) (k : ℕ) → marked t ≤ suc (marked (slice_set t k false))
cleared [] k = omega arith
cleared (true ∷ t) zero = omega arith
cleared (false ∷ t) zero = omega arith
cleared (true ∷ t) (suc k) = omega (arith, cleared t k)
cleared (false ∷ t) (suc k) = omega (arith, cleared t k)

-- no marks
unmarked : (t : List Bool) → ((k : ℕ) → get_or t k false ≡ true → ⊥) → marked t ≡ 0
unmarked [] none = refl
unmarked (true ∷ t) none = absurd (none 0 refl)
unmarked (false ∷ t) none = unmarked t (λ k. none (suc k))

-- what a mark is after another is cleared
after_cleared : (t : List Bool) (k m : ℕ) → get_or (slice_set t m false) k false ≡ true → (get_or t k false ≡ true) × (m ≢ k)
after_cleared [] k m h = absurd (true≢false (sym h))
after_cleared (b ∷ t) zero zero h = absurd (true≢false (sym h))
after_cleared (b ∷ t) zero (suc m) h = (h, λ e. omega (arith, e))
after_cleared (b ∷ t) (suc k) zero h = (h, λ e. omega (arith, e))
after_cleared (b ∷ t) (suc k) (suc m) h = let rest = after_cleared t k m h in (rest.0, λ e. rest.1 (omega (arith, e)))

-- the marks are no more than the pairs, if there is a pair for each
marks_few : {P : Type 0} (at : P → ℕ) (pairs : List P) (t : List Bool) → ((k : ℕ) → get_or t k false ≡ true → list_any (λ p. at p == k) pairs ≡ true) → marked t ≤ length pairs
marks_few at [] t listed = omega (arith, unmarked t (λ k h. true≢false (sym (listed k h))))
marks_few at (p ∷ ps) t listed =
    omega (arith, cleared t (at p), marks_few at ps (slice_set t (at p) false) (λ k h. let was = after_cleared t k (at p) h in rw (ne_eqb (at p) k was.1) at (listed k was.0)))

-- an element that passes one test passes another
any_weaker : {P : Type 0} (p q : P → Bool) (xs : List P) → ((x : P) → p x ≡ true → q x ≡ true) → list_any p xs ≡ true → list_any q xs ≡ true
any_weaker p q [] weaker h = h
any_weaker p q (x ∷ xs) weaker h = bool_case _ (p x)
    (λ is. or_left (q x) (list_any q xs) (weaker x is))
    (λ isnt. or_right (q x) (list_any q xs) (any_weaker p q xs weaker (rw isnt at h)))

-- no more pairs of a course and a slot are marked than are listed
pub pairs_few : (i : Problem) (names : List (List ℕ)) (pairs : List PairWords) → length i.unavailable ≡ length i.courses * (i.days * i.periods)
    → ((c s : ℕ) → c < length i.courses → s < i.days * i.periods → get_or i.unavailable (c * (i.days * i.periods) + s) false ≡ list_any (is_listed names i.periods c s) pairs) → marked i.unavailable ≤ length pairs
pairs_few i names pairs all listed = marks_few place pairs i.unavailable (λ k h. found k h (row_of (length i.courses) (i.days * i.periods) k (within k h)))
  where
    place : PairWords → ℕ
    place p = place_of names p.course * (i.days * i.periods) + (value p.day * i.periods + value p.period)

    within : (k : ℕ) → get_or i.unavailable k false ≡ true → k < length i.courses * (i.days * i.periods)
    within k h = bool_case _ (nat_lt k (length i.unavailable))
        (λ is. subst (λ n. k < n) all (ltb-true k (length i.unavailable) is))
        (λ isnt. absurd (true≢false (sym h ∙ get_or_past i.unavailable k false (ltb-false k (length i.unavailable) isnt))))

    found : (k : ℕ) → get_or i.unavailable k false ≡ true → Row (length i.courses) (i.days * i.periods) k → list_any (λ p. place p == k) pairs ≡ true
    found k h at = any_weaker (is_listed names i.periods at.row at.column) (λ p. place p == k) pairs
        (λ p is. let parts = and_parts (place_of names p.course == at.row) (value p.day * i.periods + value p.period == at.column) is in
        eq-eqb (place p) k (rw (eqb-true (place_of names p.course) at.row parts.0, eqb-true (value p.day * i.periods + value p.period) at.column parts.1) at.place))
        (sym (listed at.row at.column at.row_below at.column_below) ∙ ap (λ m. get_or i.unavailable m false) at.place ∙ h)
