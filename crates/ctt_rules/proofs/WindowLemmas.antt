-- Isolated lectures, by the words of a window.
use Rattle.std.proofs.Common.{◌≡◌, ℕ, ◌+◌, ◌-◌, ◌*◌, ◌/◌, ◌%◌, ◌^◌, ◌<◌, ◌≤◌, Bool, true, false, cond, not, ◌&&◌, ◌||◌, ◌==◌, eqb, ltb, leb, List, [], ◌∷◌, length, get_or, set, refl, ◌∙◌, sym, ap, ap₂, arith, inl, inr, ◌⊎◌}
use Rattle.std.specs.Prelude.{bit_or}
use Rattle.std.specs.List.{count_by, sum_by, list_any, AllByRecursion as Each}
use Rattle.std.proofs.Math.Nat.{div-mul-le_self, div-zero}
use Rattle.std.proofs.lemmas.Nat.{le-div}
use Rattle.std.proofs.lemmas.Bool.{cases_Bool, cases_eq, cases_lt, eq-eqb, ne_eqb, leb-true, ltb-true, lt-ltb, le-ltb, le-leb, lt-leb, and_from, and_left, and_right, and_parts, both_ways}
use Rattle.std.proofs.lemmas.List.{get_or-set_same, get_or-set_other}
use Rattle.ctt_problem.specs.Lists.{Pairwise, has, count_below}
use Rattle.ctt_problem.specs.Problem.{Problem, IsProblem, AreMembers, day_of, slot_count}
use Rattle.ctt_problem.specs.Timetable.{IsTimetable, Fits, course_row}
use Rattle.ctt_problem.specs.declared.placed.Placed.{Placed}
use Rattle.ctt_rules.specs.Penalty.{next_to, is_alone, alone_cost, lectures_of}
use Rattle.ctt_rules.specs.Windows.{spaced, stands_at, has_bit, word_of, is_alone_within}
use Rattle.ctt_problem.proofs.TimetableLemmas.{Each-map}
use Rattle.ctt_rules.proofs.BitLemmas.{bit_of_set}
use Rattle.ctt_rules.proofs.ListLemmas.{Each-filter, Each-every, Pairwise-map}
use Rattle.ctt_rules.proofs.SlotLemmas.{periods_above, day_fits}
use Rattle.ctt_rules.proofs.NeighbourLemmas.{any_or, any_same, count_by-same}
use Rattle.ctt_rules.proofs.CurriculumLemmas.{any_lecture, count_lectures, count_lectures_le}
use Rattle.ctt_rules.proofs.SumLemmas.{sum_below_same, sum_below_agree, sum_below_add, sum_below_one, sum_below_zero, count_by-cons, count_below_le, sum_by-agree, sum_by-join, sum_by-zero, sum_by-few}
use Rattle.ctt_rules.proofs.TimetableLemmas.{row_by_slot, few_lectures}

-- two tests for equality are the same if each implies the other
eqb_same : (a b c d : ℕ) → (a ≡ b → c ≡ d) → (c ≡ d → a ≡ b) → eqb a b ≡ eqb c d
eqb_same a b c d f g = elim (cases_eq a b) [
  | inl e ↦ (eq-eqb a b e ∙ sym (eq-eqb c d (f e)))
  | inr n ↦ (ne_eqb a b n ∙ sym (ne_eqb c d (λ e. n (g e))))
]

-- the numbers of those that pass a test, if no two that pass have the same number
module _ {X : Type 0} (g : X → Bool) (f : X → ℕ) (q : ℕ → Bool) (n : ℕ) where
  abbrev Apart : X → X → Type 0
  Apart x y = g x ≡ true → g y ≡ true → f x ≡ f y → ⊥

  abbrev numbered : List X → ℕ → Bool
  numbered xs d = list_any (λ y. g y && f y == d) xs

  not_there : (x : X) (xs : List X) → g x ≡ true → Each (Apart x) xs → numbered xs (f x) ≡ false
  not_there x [] e h = refl
  not_there x (y ∷ ys) e h = ap₂ (λ a b. a || b) here (not_there x ys e h.1)
    where
      here : (g y && f y == f x) ≡ false
      here = elim (cases_Bool (g y)) [
        | inl k ↦ and_right (g y) (f y == f x) (ne_eqb (f y) (f x) (λ same. h.0 e k (sym same)))
        | inr k ↦ and_left (g y) (f y == f x) k
      ]

  pub counted_apart : (xs : List X) → Pairwise Apart xs → Each (λ x. g x ≡ true → f x < n) xs → count_below (λ d. numbered xs d && q d) n ≡ count_by (λ x. g x && q (f x)) xs
  counted_apart [] h fits = sum_below_zero (λ _. 0) n (λ _ _. refl)
  counted_apart (x ∷ xs) h fits = elim (cases_Bool (g x)) [
    | inl e ↦ (
        let none : numbered xs (f x) ≡ false = not_there x xs e h.0 in
        sum_below_same (λ d. cond (numbered (x ∷ xs) d && q d) 1 0) (λ d. cond (numbered xs d && q d) 1 0 + cond (eqb (f x) d) (cond (q (f x)) 1 0) 0) n (λ d. each d e none)
        ∙ sum_below_add (λ d. cond (numbered xs d && q d) 1 0) (λ d. cond (eqb (f x) d) (cond (q (f x)) 1 0) 0) n
        ∙ ap₂ (λ a b. a + b) (counted_apart xs h.1 fits.1) (sum_below_one (cond (q (f x)) 1 0) (f x) n (fits.0 e))
        ∙ omega (arith, count_by-cons (λ x. g x && q (f x)) x xs, ap (λ b. cond {A = ℕ} (b && q (f x)) 1 0) e))
    | inr e ↦ (
        sum_below_same (λ d. cond (numbered (x ∷ xs) d && q d) 1 0) (λ d. cond (numbered xs d && q d) 1 0) n (λ d. ap (λ b. cond (((b && f x == d) || numbered xs d) && q d) 1 0) e)
        ∙ counted_apart xs h.1 fits.1 ∙ omega (arith, count_by-cons (λ x. g x && q (f x)) x xs, ap (λ b. cond {A = ℕ} (b && q (f x)) 1 0) e))
  ]
    where
      at : (b : Bool) → ◌≡◌ {A = ℕ} (cond ((true || false) && b) 1 0) (cond (false && b) 1 0 + cond b 1 0)
      at true = refl
      at false = refl

      each : (d : ℕ) → g x ≡ true → numbered xs (f x) ≡ false → cond (numbered (x ∷ xs) d && q d) 1 0 ≡ cond (numbered xs d && q d) 1 0 + cond (eqb (f x) d) (cond (q (f x)) 1 0) 0
      each d e none = elim (cases_eq (f x) d) [
        | inl same ↦ (
            let yes' : eqb (f x) d ≡ true = eq-eqb (f x) d same in
            let none' : numbered xs d ≡ false = ap (numbered xs) (sym same) ∙ none in
            rw (e, yes', none', same) (at (q d)))
        | inr other ↦ (
            let no' : eqb (f x) d ≡ false = ne_eqb (f x) d other in
            rw (e, no') (omega arith))
      ]

-- the day of a slot is non-decreasing in the slot
days_rise : (i : Problem) (a b : ℕ) → a ≤ b → day_of i a ≤ day_of i b
days_rise i a b le = elim (cases_eq i.periods 0) [
  | inl none ↦ omega (arith, ap (λ k. a / k) none ∙ div-zero a)
  | inr some ↦ le-div (day_of i a) b i.periods (omega arith) (omega (arith, le, div-mul-le_self a i.periods))
]

-- slots are adjacent exactly if their spaced numbers are consecutive
pub next_is : (i : Problem) (s m : ℕ) → 0 < i.periods → next_to i s m ≡ (spaced i m == spaced i s + 1 || spaced i m + 1 == spaced i s)
next_is i s m some = elim (cases_eq (day_of i s) (day_of i m)) [
  | inl same ↦ (
      ap (λ b. b && (s + 1 == m || m + 1 == s)) (eq-eqb (day_of i s) (day_of i m) same)
      ∙ ap₂ (λ a b. a || b) (eqb_same (s + 1) m (spaced i m) (spaced i s + 1) (λ e. omega (arith, e, same)) (λ e. omega (arith, e, same))) (eqb_same (m + 1) s (spaced i m + 1) (spaced i s) (λ e. omega (arith, e, same)) (λ e. omega (arith, e, same))))
  | inr other ↦ (
      ap (λ b. b && (s + 1 == m || m + 1 == s)) (ne_eqb (day_of i s) (day_of i m) other)
      ∙ sym (ap₂ (λ a b. a || b) (ne_eqb (spaced i m) (spaced i s + 1) (λ e. far other (inl e))) (ne_eqb (spaced i m + 1) (spaced i s) (λ e. far other (inr e)))))
]
  where
    rises : (a b : ℕ) → a ≤ b → day_of i a ≤ day_of i b
    rises = days_rise i

    far : (day_of i s ≡ day_of i m → ⊥) → (spaced i m ≡ spaced i s + 1) ⊎ (spaced i m + 1 ≡ spaced i s) → ⊥
    far apart e = elim (cases_lt s m) [
      | inl lt ↦ elim e [ inl k ↦ omega (arith, k, lt, apart, rises s m (omega arith)) | inr k ↦ omega (arith, k, lt, rises s m (omega arith)) ]
      | inr le ↦ elim e [
        | inl k ↦ omega (arith, k, le, rises m s le)
        | inr k ↦ elim (cases_eq s m) [ inl same ↦ apart (ap (day_of i) same) | inr not_same ↦ omega (arith, k, le, not_same, rises m s le) ]
      ]
    ]

-- the lectures of one course among those of all
pub any_in_row : (c : ℕ) (p : Placed → Bool) (t : List Placed) → list_any (λ l. l.course == c && p l) t ≡ list_any p (course_row c t)
any_in_row c p [] = refl
any_in_row c p (x ∷ xs) = elim (cases_Bool (eqb x.course c)) [
  | inl y ↦ rw y (ap (λ b. p x || b) (any_in_row c p xs))
  | inr n ↦ rw n (any_in_row c p xs)
]

-- a window over the lectures of a curriculum
module _ (i : Problem) (t : List Placed) (h : IsTimetable i t) (first : ℕ) (words : List ℕ) (right : (c place : ℕ) → place < 64 → has_bit (word_of words c) place ≡ list_any (λ l. l.course == c && stands_at i first place l) t) where
  abbrev place_of : Placed → ℕ
  place_of l = spaced i l.slot + 1 - first

  abbrev in_window : Placed → Bool
  in_window l = leb first (spaced i l.slot + 1) && ltb (spaced i l.slot + 1) (first + 64)

  -- a lecture is at a place of the window exactly if it is in the window and has that place
  stands_is : (place : ℕ) (l : Placed) → place < 64 → stands_at i first place l ≡ (in_window l && place_of l == place)
  stands_is place l lt = elim (cases_lt (spaced i l.slot + 1) first) [
    | inl before ↦ off (ne_eqb (spaced i l.slot + 1) (first + place) (λ e. omega (arith, e, before))) (and_left (leb first (spaced i l.slot + 1)) (ltb (spaced i l.slot + 1) (first + 64)) (lt-leb first (spaced i l.slot + 1) before))
    | inr after ↦ elim (cases_lt (spaced i l.slot + 1) (first + 64)) [
      | inl inside ↦ (
          eqb_same (spaced i l.slot + 1) (first + place) (place_of l) place (λ e. omega (arith, e)) (λ e. omega (arith, e, after))
          ∙ sym (ap (λ b. b && place_of l == place) (and_from (leb first (spaced i l.slot + 1)) (ltb (spaced i l.slot + 1) (first + 64)) (le-leb first (spaced i l.slot + 1) after) (lt-ltb (spaced i l.slot + 1) (first + 64) inside))))
      | inr behind ↦ off (ne_eqb (spaced i l.slot + 1) (first + place) (λ e. omega (arith, e, behind))) (and_right (leb first (spaced i l.slot + 1)) (ltb (spaced i l.slot + 1) (first + 64)) (le-ltb (spaced i l.slot + 1) (first + 64) behind))
    ]
  ]
    where
      off : stands_at i first place l ≡ false → in_window l ≡ false → stands_at i first place l ≡ (in_window l && place_of l == place)
      off a b = a ∙ sym (and_left (in_window l) (place_of l == place) b)

  within : (l : Placed) → in_window l ≡ true → (first ≤ spaced i l.slot + 1) × (spaced i l.slot + 1 < first + 64)
  within l e =
      let parts = and_parts (leb first (spaced i l.slot + 1)) (ltb (spaced i l.slot + 1) (first + 64)) e in
      (leb-true first (spaced i l.slot + 1) parts.0, ltb-true (spaced i l.slot + 1) (first + 64) parts.1)

  row_counted : (bits c : ℕ) → count_below (λ place. has_bit (word_of words c) place && has_bit bits place) 64 ≡ count_by (λ l. in_window l && has_bit bits (place_of l)) (course_row c t)
  row_counted bits c =
      let row : List Placed = course_row c t in
      sum_below_agree (λ place. cond (has_bit (word_of words c) place && has_bit bits place) 1 0) (λ place. cond (list_any (λ l. in_window l && place_of l == place) row && has_bit bits place) 1 0) 64
      (λ place lt. ap (λ b. cond (b && has_bit bits place) 1 0) (right c place lt ∙ any_in_row c (stands_at i first place) t ∙ any_same (stands_at i first place) (λ l. in_window l && place_of l == place) row (λ l. stands_is place l lt)))
      ∙ counted_apart in_window place_of (has_bit bits) 64 row
      (Pairwise-map (λ (a b : Placed). a.slot < b.slot) (λ a b. in_window a ≡ true → in_window b ≡ true → place_of a ≡ place_of b → ⊥) apart row (row_by_slot c t h.ascending))
      (Each-every (λ l. in_window l ≡ true → place_of l < 64) (λ l e. let w = within l e in omega (arith, w.1)) row)
    where
      apart : (a b : Placed) → a.slot < b.slot → in_window a ≡ true → in_window b ≡ true → place_of a ≡ place_of b → ⊥
      apart a b lt ea eb e =
          let wa = within a ea in
          let wb = within b eb in
          omega (arith, lt, e, wa.0, wb.0, days_rise i a.slot b.slot (omega arith))

  module _ (q : List ℕ) (different : Pairwise (λ c d. (c == d) ≡ false) q) (busy bits : ℕ)
      (busy_is : (place : ℕ) → has_bit busy place ≡ list_any (λ c. has_bit (word_of words c) place) q)
      (bits_are : (place : ℕ) → has_bit bits place ≡ ((ltb 0 place && ltb place 63) && (not (has_bit busy (place - 1)) && not (has_bit busy (place + 1))))) where
    abbrev part : List Placed
    part = lectures_of q t

    busy_there : (place : ℕ) → place < 64 → has_bit busy place ≡ list_any (stands_at i first place) part
    busy_there place lt = busy_is place ∙ any_same (λ c. has_bit (word_of words c) place) (λ c. list_any (stands_at i first place) (course_row c t)) q (λ c. right c place lt ∙ any_in_row c (stands_at i first place) t) ∙ any_lecture (stands_at i first place) q t

    none_beside : (l : Placed) (place : ℕ) → Fits i l → spaced i l.slot + 1 ≡ first + place → 0 < place → place < 63 → (not (has_bit busy (place - 1)) && not (has_bit busy (place + 1))) ≡ is_alone i part l
    none_beside l place f at low high =
        ap₂ (λ a b. not a && not b) (busy_there (place - 1) (omega (arith, high))) (busy_there (place + 1) (omega (arith, high)))
        ∙ turn (list_any (stands_at i first (place - 1)) part) (list_any (stands_at i first (place + 1)) part)
        ∙ ap not (sym (any_same (λ m. next_to i l.slot m.slot) (λ m. stands_at i first (place + 1) m || stands_at i first (place - 1) m) part each ∙ any_or (stands_at i first (place + 1)) (stands_at i first (place - 1)) part))
      where
        turn : (a b : Bool) → (not a && not b) ≡ not (b || a)
        turn a b = grind arith

        each : (m : Placed) → next_to i l.slot m.slot ≡ (stands_at i first (place + 1) m || stands_at i first (place - 1) m)
        each m = next_is i l.slot m.slot (periods_above i l.slot f.1)
            ∙ ap₂ (λ a b. a || b) (eqb_same (spaced i m.slot) (spaced i l.slot + 1) (spaced i m.slot + 1) (first + (place + 1)) (λ e. omega (arith, e, at)) (λ e. omega (arith, e, at)))
            (eqb_same (spaced i m.slot + 1) (spaced i l.slot) (spaced i m.slot + 1) (first + (place - 1)) (λ e. omega (arith, e, at, low)) (λ e. omega (arith, e, at, low)))

    alone_there : (l : Placed) → Fits i l → (in_window l && has_bit bits (place_of l)) ≡ is_alone_within i first part l
    alone_there l f = elim (cases_lt (spaced i l.slot) first) [
      | inl before ↦ (
          and_right (in_window l) (has_bit bits (place_of l)) (not_counted (and_left (ltb 0 (place_of l)) (ltb (place_of l) 63) (le-ltb 0 (place_of l) (omega (arith, before)))))
          ∙ sym (and_left (leb first (spaced i l.slot) && ltb (spaced i l.slot) (first + 62)) (is_alone i part l) (and_left (leb first (spaced i l.slot)) (ltb (spaced i l.slot) (first + 62)) (lt-leb first (spaced i l.slot) before))))
      | inr after ↦ elim (cases_lt (spaced i l.slot) (first + 62)) [
        | inl inside ↦ (
            let low : 0 < place_of l = omega (arith, after) in
            let high : place_of l < 63 = omega (arith, after, inside) in
            let yes' : in_window l ≡ true = and_from (leb first (spaced i l.slot + 1)) (ltb (spaced i l.slot + 1) (first + 64)) (le-leb first (spaced i l.slot + 1) (omega (arith, after))) (lt-ltb (spaced i l.slot + 1) (first + 64) (omega (arith, inside))) in
            ap₂ (λ a b. a && b) yes' (bits_are (place_of l) ∙ ap₂ (λ a b. a && b) (and_from (ltb 0 (place_of l)) (ltb (place_of l) 63) (lt-ltb 0 (place_of l) low) (lt-ltb (place_of l) 63 high)) (none_beside l (place_of l) f (omega (arith, after)) low high))
            ∙ sym (ap (λ b. b && is_alone i part l) (and_from (leb first (spaced i l.slot)) (ltb (spaced i l.slot) (first + 62)) (le-leb first (spaced i l.slot) after) (lt-ltb (spaced i l.slot) (first + 62) inside))))
        | inr behind ↦ (
            and_right (in_window l) (has_bit bits (place_of l)) (not_counted (and_right (ltb 0 (place_of l)) (ltb (place_of l) 63) (le-ltb (place_of l) 63 (omega (arith, behind)))))
            ∙ sym (and_left (leb first (spaced i l.slot) && ltb (spaced i l.slot) (first + 62)) (is_alone i part l) (and_right (leb first (spaced i l.slot)) (ltb (spaced i l.slot) (first + 62)) (le-ltb (spaced i l.slot) (first + 62) behind))))
      ]
    ]
      where
        not_counted : (ltb 0 (place_of l) && ltb (place_of l) 63) ≡ false → has_bit bits (place_of l) ≡ false
        not_counted e = bits_are (place_of l) ∙ and_left (ltb 0 (place_of l) && ltb (place_of l) 63) (not (has_bit busy (place_of l - 1)) && not (has_bit busy (place_of l + 1))) e

    pub alone_counted : sum_by (λ c. count_below (λ place. has_bit (word_of words c) place && has_bit bits place) 64) q ≡ count_by (is_alone_within i first part) part
    alone_counted =
        sum_by-agree (λ c. count_below (λ place. has_bit (word_of words c) place && has_bit bits place) 64) (λ c. count_by (λ l. in_window l && has_bit bits (place_of l)) (course_row c t)) (row_counted bits) q
        ∙ count_lectures (λ l. in_window l && has_bit bits (place_of l)) q t different
        ∙ count_by-same (λ l. in_window l && has_bit bits (place_of l)) (is_alone_within i first part) part (Each-map (Fits i) (λ l. (in_window l && has_bit bits (place_of l)) ≡ is_alone_within i first part l) alone_there part (Each-filter (Fits i) (λ l. has l.course q) t h.fits))

-- a table of words in which one more bit is set
pub bit_set_in : (words : List ℕ) (course number first : ℕ) → course < length words → first ≤ number → number - first < 64 → (c place : ℕ)
    → has_bit (word_of (set words course (bit_or (get_or words course 0) (1 * 2 ^ (number - first) % 2 ^ 64))) c) place ≡ ((course == c && number == first + place) || has_bit (word_of words c) place)
bit_set_in words course number first within low high c place = elim (cases_eq course c) [
  | inl same ↦ (
      let value : ℕ = bit_or (get_or words course 0) (1 * 2 ^ (number - first) % 2 ^ 64) in
      let there : get_or (set words course value) c 0 ≡ value = ap (λ k. get_or (set words course value) k 0) (sym same) ∙ get_or-set_same words course value 0 within in
      ap (λ w. has_bit w place) there ∙ bit_of_set (get_or words course 0) (number - first) place high
      ∙ ap₂ (λ a b. a || b) (eqb_same place (number - first) number (first + place) (λ e. omega (arith, e, low)) (λ e. omega (arith, e, low)) ∙ sym (ap (λ b. b && number == first + place) (eq-eqb course c same))) (ap (λ k. has_bit (get_or words k 0) place) same))
  | inr other ↦ (
      ap (λ w. has_bit w place) (get_or-set_other words course c (bit_or (get_or words course 0) (1 * 2 ^ (number - first) % 2 ^ 64)) 0 (λ e. other (sym e)))
      ∙ sym (ap (λ b. b || has_bit (word_of words c) place) (and_left (course == c) (number == first + place) (ne_eqb course c other))))
]

-- at most n different numbers are less than n
pub few_members : (n : ℕ) (q : List ℕ) → AreMembers n q → length q ≤ n
few_members n q h = omega (
  arith,
  all q,
  counted_apart (λ _. true) (λ c. c) (λ _. true) n q (Pairwise-map (λ c d. (c == d) ≡ false) (λ c d. true ≡ true → true ≡ true → c ≡ d → ⊥) (λ c d k _ _ e. both_ways (c == d) k (eq-eqb c d e)) q h.1) (Each-map (λ c. c < n) (λ c. true ≡ true → c < n) (λ c k _. k) q h.0),
  count_below_le (λ d. list_any (λ c. true && c == d) q && true) n,
)
  where
    all : (xs : List ℕ) → count_by (λ _. true && true) xs ≡ length xs
    all [] = refl
    all (x ∷ xs) = omega (arith, count_by-cons (λ _. true && true) x xs, all xs)

module _ (i : Problem) (t : List Placed) (h : IsTimetable i t) where
  abbrev alone_before : ℕ → List Placed → Placed → Bool
  alone_before first ls l = ltb (spaced i l.slot) first && is_alone i ls l

  abbrev cost_before : ℕ → List ℕ → ℕ
  cost_before first q = 2 * count_by (alone_before first (lectures_of q t)) (lectures_of q t)

  -- no lecture has a number less than zero
  pub none_before : 0 ≡ sum_by (cost_before 0) i.curricula
  none_before = sym (sum_by-zero (cost_before 0) (λ q. ap (λ n. 2 * n) (sum_by-zero (λ l. cond (alone_before 0 (lectures_of q t) l) 1 0) (λ l. ap (λ b. cond b 1 0) (and_left (ltb (spaced i l.slot) 0) (is_alone i (lectures_of q t) l) (le-ltb (spaced i l.slot) 0 (omega arith)))) (lectures_of q t))) i.curricula)

  -- the lectures before a window and those in it are those before the next window
  pub window_more : (first : ℕ) → sum_by (cost_before first) i.curricula + sum_by (λ q. 2 * count_by (is_alone_within i first (lectures_of q t)) (lectures_of q t)) i.curricula ≡ sum_by (cost_before (first + 62)) i.curricula
  window_more first = sum_by-join (cost_before first) (λ q. 2 * count_by (is_alone_within i first (lectures_of q t)) (lectures_of q t)) (cost_before (first + 62))
      (λ q. omega (arith, sum_by-join (λ l. cond (alone_before first (lectures_of q t) l) 1 0) (λ l. cond (is_alone_within i first (lectures_of q t) l) 1 0) (λ l. cond (alone_before (first + 62) (lectures_of q t) l) 1 0) (λ l. each (spaced i l.slot) (is_alone i (lectures_of q t) l)) (lectures_of q t))) i.curricula
    where
      by : (x y z b : Bool) → (x ≡ true) × (y ≡ false) × (z ≡ true) ⊎ (x ≡ false) × (y ≡ true) → cond (x && b) 1 0 + cond ((y && z) && b) 1 0 ≡ cond {A = ℕ} (z && b) 1 0
      by true false true true h = refl
      by true false true false h = refl
      by false true true true h = refl
      by false true true false h = refl
      by false true false true h = refl
      by false true false false h = refl
      by true true z b h = elim h [ inl k ↦ cc | inr k ↦ cc ]
      by true false false b h = elim h [ inl k ↦ cc | inr k ↦ cc ]
      by false false z b h = elim h [ inl k ↦ cc | inr k ↦ cc ]

      each : (s : ℕ) (b : Bool) → cond (ltb s first && b) 1 0 + cond ((leb first s && ltb s (first + 62)) && b) 1 0 ≡ cond {A = ℕ} (ltb s (first + 62) && b) 1 0
      each s b = by (ltb s first) (leb first s) (ltb s (first + 62)) b (elim (cases_lt s first) [
        | inl lt ↦ inl (lt-ltb s first lt, lt-leb first s lt, lt-ltb s (first + 62) (omega (arith, lt)))
        | inr le ↦ inr (le-ltb s first le, le-leb first s le)
      ])

  -- the lectures before the end are all lectures
  pub all_before : (first : ℕ) → slot_count i + i.days ≤ first → sum_by (cost_before first) i.curricula ≡ sum_by (λ q. alone_cost i (lectures_of q t)) i.curricula
  all_before first le = sum_by-agree (cost_before first) (λ q. alone_cost i (lectures_of q t)) (λ q. ap (λ n. 2 * n) (count_by-same (alone_before first (lectures_of q t)) (is_alone i (lectures_of q t)) (lectures_of q t)
      (Each-map (Fits i) (λ l. alone_before first (lectures_of q t) l ≡ is_alone i (lectures_of q t) l) (λ l f. ap (λ b. b && is_alone i (lectures_of q t) l) (lt-ltb (spaced i l.slot) first (omega (arith, le, f.1, day_fits i l.slot f.1)))) (lectures_of q t) (Each-filter (Fits i) (λ l. has l.course q) t h.fits)))) i.curricula

  pub alone_few : (p : List ℕ → Placed → Bool) → IsProblem i → sum_by (λ q. 2 * count_by (p q) (lectures_of q t)) i.curricula ≤ 20000 * 8000000
  alone_few p limits = omega (arith, sum_by-few (λ q. 2 * count_by (p q) (lectures_of q t)) 8000000 (λ q. omega (arith, count_lectures_le (p q) q t, few_lectures i t h limits)) i.curricula, limits.curricula_few)
