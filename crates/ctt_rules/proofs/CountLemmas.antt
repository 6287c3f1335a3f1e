-- The hard counts are zero exactly if the hard rules hold.
use Rattle.std.proofs.Common.{◌≡◌, ℕ, zero, suc, ◌+◌, ◌-◌, ◌<◌, ◌≤◌, Bool, true, false, cond, ◌&&◌, ◌==◌, List, [], ◌∷◌, length, refl, ◌∙◌, sym, ap, arith, inl, inr}
use Rattle.std.specs.List.{count_by, AllByRecursion as Each}
use Rattle.std.proofs.lemmas.Bool.Decides.{nat_tests}
use Rattle.std.proofs.lemmas.Bool.{cases_Bool, cases_eq, cases_lt, ne_eqb}
use Rattle.std.proofs.lemmas.List.{get_or_past}
use Rattle.ctt_problem.specs.Lists.{Pairwise, sum_below}
use Rattle.ctt_problem.specs.Problem.{Problem, course_of, course_count, slot_count, room_count, is_unavailable, is_barred, is_blocked}
use Rattle.ctt_problem.specs.Timetable.{IsTimetable, Fits, course_row}
use Rattle.ctt_problem.specs.declared.placed.Placed.{Placed}
use Rattle.ctt_problem.proofs.TimetableLemmas.{Each-map}
use Rattle.ctt_rules.specs.Hard.{Lawful, IsAllowed, conflicts, share_room, missing_count, conflict_count, unavailable_count, barred_count, blocked_count, occupancy_count}
use Rattle.ctt_rules.proofs.ListLemmas.{filter_none, Each-both}
use Rattle.ctt_rules.proofs.SumLemmas.{sum_below_zero, count_by-cons}
use Rattle.ctt_rules.proofs.TimetableLemmas.{courses_fit}

-- five counts are zero
pub record NoneCounted (i : Problem) (t : List Placed) : Type 0 where
  pub conflicts : conflict_count i t ≡ 0
  pub unavailable : unavailable_count i t ≡ 0
  pub occupancy : occupancy_count i t ≡ 0
  pub barred : barred_count i t ≡ 0
  pub blocked : blocked_count i t ≡ 0

one_or_none : (b : Bool) (n m : ℕ) → n ≡ cond b 1 0 + m → ((b ≡ true) → n ≡ suc m) × ((b ≡ false) → n ≡ m)
one_or_none true n m e = ((λ h. e ∙ omega arith), (λ h. cc))
one_or_none false n m e = ((λ h. cc), (λ h. e ∙ omega arith))

count_none : {X : Type 0} (p : X → Bool) (xs : List X) → Each (λ x. p x ≡ false) xs → count_by p xs ≡ 0
count_none p [] h = refl
count_none p (x ∷ xs) h = (one_or_none (p x) (count_by p (x ∷ xs)) (count_by p xs) (count_by-cons p x xs)).1 h.0 ∙ count_none p xs h.1

none_counted : {X : Type 0} (p : X → Bool) (xs : List X) → count_by p xs ≡ 0 → Each (λ x. p x ≡ false) xs
none_counted p [] h = tt
none_counted p (x ∷ xs) h = elim (cases_Bool (p x)) [
  | inl y ↦ (let e : count_by p (x ∷ xs) ≡ suc (count_by p xs) = (one_or_none (p x) (count_by p (x ∷ xs)) (count_by p xs) (count_by-cons p x xs)).0 y in absurd (omega arith))
  | inr n ↦ (let e : count_by p (x ∷ xs) ≡ count_by p xs = (one_or_none (p x) (count_by p (x ∷ xs)) (count_by p xs) (count_by-cons p x xs)).1 n in (n, none_counted p xs (sym e ∙ h)))
]

no_conflicts : (i : Problem) (t : List Placed) → Pairwise (λ a b. conflicts i a b ≡ false) t → conflict_count i t ≡ 0
no_conflicts i [] h = refl
no_conflicts i (x ∷ xs) h = omega (arith, count_none (conflicts i x) xs h.0, no_conflicts i xs h.1)

conflict_free : (i : Problem) (t : List Placed) → conflict_count i t ≡ 0 → Pairwise (λ a b. conflicts i a b ≡ false) t
conflict_free i [] h = tt
conflict_free i (x ∷ xs) h =
    let sum : count_by (conflicts i x) xs + conflict_count i xs ≡ 0 = h in
    (none_counted (conflicts i x) xs (omega arith), conflict_free i xs (omega arith))

-- the lectures in one room and slot
abbrev stands : ℕ → ℕ → Placed → Bool
stands r s l = l.room == r && l.slot == s

at_most_one : (r s : ℕ) (t : List Placed) → Pairwise (λ a b. share_room a b ≡ false) t → count_by (stands r s) t ≤ 1
at_most_one r s [] h = omega arith
at_most_one r s (x ∷ xs) h = elim (cases_Bool (stands r s x)) [
  | inl y ↦ (let e : count_by (stands r s) (x ∷ xs) ≡ suc (count_by (stands r s) xs) = (one_or_none (stands r s x) (count_by (stands r s) (x ∷ xs)) (count_by (stands r s) xs) (count_by-cons (stands r s) x xs)).0 y in
      let others : count_by (stands r s) xs ≡ 0 = count_none (stands r s) xs (Each-map (λ z. share_room x z ≡ false) (λ z. stands r s z ≡ false) (λ z k. apart x z y k) xs h.0) in omega arith)
  | inr n ↦ (let e : count_by (stands r s) (x ∷ xs) ≡ count_by (stands r s) xs = (one_or_none (stands r s x) (count_by (stands r s) (x ∷ xs)) (count_by (stands r s) xs) (count_by-cons (stands r s) x xs)).1 n in
      let rest : count_by (stands r s) xs ≤ 1 = at_most_one r s xs h.1 in omega arith)
]
  where
    apart : (x z : Placed) → stands r s x ≡ true → share_room x z ≡ false → stands r s z ≡ false
    apart x z y k = grind (arith, nat_tests)

apart_from : (t : List Placed) (rooms slots : ℕ) → Each (λ l. (l.room < rooms) × (l.slot < slots)) t → ((r s : ℕ) → r < rooms → s < slots → count_by (stands r s) t ≤ 1) → Pairwise (λ a b. share_room a b ≡ false) t
apart_from [] rooms slots f h = tt
apart_from (x ∷ xs) rooms slots f h =
    let here : count_by (stands x.room x.slot) (x ∷ xs) ≤ 1 = h x.room x.slot f.0.0 f.0.1 in
    let own : stands x.room x.slot x ≡ true = grind (arith, nat_tests) in
    let e : count_by (stands x.room x.slot) (x ∷ xs) ≡ suc (count_by (stands x.room x.slot) xs) = (one_or_none (stands x.room x.slot x) (count_by (stands x.room x.slot) (x ∷ xs)) (count_by (stands x.room x.slot) xs) (count_by-cons (stands x.room x.slot) x xs)).0 own in (
      Each-map (λ z. stands x.room x.slot z ≡ false) (λ z. share_room x z ≡ false) (λ z k. apart x z k) xs (none_counted (stands x.room x.slot) xs (omega arith)),
      apart_from xs rooms slots f.1 (λ r s lt lt2. let less : count_by (stands r s) (x ∷ xs) ≤ 1 = h r s lt lt2 in omega (arith, count_by-cons (stands r s) x xs)),
    )
  where
    apart : (x z : Placed) → stands x.room x.slot z ≡ false → share_room x z ≡ false
    apart x z k = grind (arith, nat_tests)

zero_terms : (f : ℕ → ℕ) (n : ℕ) → sum_below f n ≡ 0 → (k : ℕ) → k < n → f k ≡ 0
zero_terms f zero h k lt = absurd (omega arith)
zero_terms f (suc n) h k lt =
    let sum : sum_below f n + f n ≡ 0 = h in
    elim (cases_eq k n) [
      | inl same ↦ (ap f same ∙ omega arith)
      | inr other ↦ zero_terms f n (omega arith) k (omega arith)
    ]

module _ (i : Problem) (t : List Placed) (h : IsTimetable i t) where
  pub counted : Lawful i t → NoneCounted i t
  counted l = record {
    conflicts = no_conflicts i t l.conflict_free;
    unavailable = count_none (λ l. is_unavailable i l.course l.slot) t (Each-map (IsAllowed i) (λ l. is_unavailable i l.course l.slot ≡ false) (λ l a. a.0) t l.allowed);
    barred = count_none (λ l. is_barred i l.course l.room) t (Each-map (IsAllowed i) (λ l. is_barred i l.course l.room ≡ false) (λ l a. a.1) t l.allowed);
    blocked = count_none (λ l. is_blocked i l.room l.slot) t (Each-map (IsAllowed i) (λ l. is_blocked i l.room l.slot ≡ false) (λ l a. a.2) t l.allowed);
    occupancy = sum_below_zero (λ r. sum_below (λ s. count_by (stands r s) t - 1) (slot_count i)) (room_count i)
        (λ r lt. sum_below_zero (λ s. count_by (stands r s) t - 1) (slot_count i) (λ s lt2. let few' : count_by (stands r s) t ≤ 1 = at_most_one r s t l.rooms_apart in omega arith));
  }

  pub lawful : ((c : ℕ) → length (course_row c t) ≤ (course_of i c).lectures) → NoneCounted i t → Lawful i t
  lawful few n = record {
    timetable = h;
    conflict_free = conflict_free i t n.conflicts;
    allowed = Each-both (λ (l : Placed). is_unavailable i l.course l.slot ≡ false) (λ l. (is_barred i l.course l.room ≡ false) × (is_blocked i l.room l.slot ≡ false)) (IsAllowed i) (λ l a b. (a, b.0, b.1)) t
        (none_counted (λ l. is_unavailable i l.course l.slot) t n.unavailable)
        (Each-both (λ (l : Placed). is_barred i l.course l.room ≡ false) (λ l. is_blocked i l.room l.slot ≡ false) _ (λ l a b. (a, b)) t
        (none_counted (λ l. is_barred i l.course l.room) t n.barred) (none_counted (λ l. is_blocked i l.room l.slot) t n.blocked));
    rooms_apart = apart_from t (room_count i) (slot_count i) (Each-map (Fits i) (λ l. (l.room < room_count i) × (l.slot < slot_count i)) (λ l f. (f.2, f.1)) t h.fits)
        (λ r s lt lt2. let row : sum_below (λ s. count_by (stands r s) t - 1) (slot_count i) ≡ 0 = zero_terms (λ r. sum_below (λ s. count_by (stands r s) t - 1) (slot_count i)) (room_count i) n.occupancy r lt in
        let one : count_by (stands r s) t - 1 ≡ 0 = zero_terms (λ s. count_by (stands r s) t - 1) (slot_count i) row s lt2 in omega arith);
    few = few;
  }

  -- past the last course there are no lectures, placed or stated
  pub none_past : (c : ℕ) → course_count i ≤ c → (length (course_row c t) ≡ 0) × ((course_of i c).lectures ≡ 0)
  none_past c le =
      let row : course_row c t ≡ [] = filter_none (λ l. l.course == c) t (Each-map (λ (l : Placed). l.course < course_count i) (λ l. (l.course == c) ≡ false) (λ l lt. ne_eqb l.course c (λ e. omega (arith, e, lt, le))) t (courses_fit i t h)) in
      (ap length row, ap (λ f. f.lectures) (get_or_past i.courses c (record { teacher = 0; lectures = 0; min_days = 0; students = 0 }) le))

  pub all_placed : missing_count i t ≡ 0 → (c : ℕ) → length (course_row c t) ≡ (course_of i c).lectures
  all_placed none c = elim (cases_lt c (course_count i)) [
    | inl lt ↦ (let one : ((course_of i c).lectures - length (course_row c t)) + (length (course_row c t) - (course_of i c).lectures) ≡ 0 =
        zero_terms (λ c. ((course_of i c).lectures - length (course_row c t)) + (length (course_row c t) - (course_of i c).lectures)) (course_count i) none c lt in omega arith)
    | inr le ↦ ((none_past c le).0 ∙ sym (none_past c le).1)
  ]

  pub none_missing : ((c : ℕ) → length (course_row c t) ≡ (course_of i c).lectures) → missing_count i t ≡ 0
  none_missing all = sum_below_zero (λ c. ((course_of i c).lectures - length (course_row c t)) + (length (course_row c t) - (course_of i c).lectures)) (course_count i) (λ c lt. omega (arith, all c))
