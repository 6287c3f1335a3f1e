-- The lectures of a curriculum, row by row.
use Rattle.std.proofs.Common.{◌≡◌, ℕ, ◌+◌, ◌≤◌, Bool, true, false, cond, ◌||◌, ◌==◌, List, [], ◌∷◌, length, refl, ◌∙◌, sym, ap, ap₂, arith, inl, inr}
use Rattle.std.specs.List.{filter, sum_by, count_by, list_any, AllByRecursion as Each}
use Rattle.std.proofs.lemmas.Bool.{cases_Bool, eqb-true}
use Rattle.std.proofs.lemmas.List.Sums.{sum_by-cons, count_by-le-length, length-filter}
use Rattle.ctt_problem.specs.Lists.{has, Pairwise}
use Rattle.ctt_problem.specs.Timetable.{course_row}
use Rattle.ctt_problem.specs.declared.placed.Placed.{Placed}
use Rattle.ctt_rules.specs.Penalty.{lectures_of}
use Rattle.ctt_rules.specs.Neighbours.{busy}
use Rattle.ctt_rules.proofs.SumLemmas.{count_by-cons}

-- if the first test excludes the second, the counts of what passes each add up
count_filter_or : (a b : Placed → Bool) (p : Placed → Bool) (xs : List Placed) → ((x : Placed) → a x ≡ true → b x ≡ false) → count_by p (filter (λ x. a x || b x) xs) ≡ count_by p (filter a xs) + count_by p (filter b xs)
count_filter_or a b p [] apart = refl
count_filter_or a b p (x ∷ xs) apart = elim (cases_Bool (a x)) [
  | inl y ↦ (let n : b x ≡ false = apart x y in rw (y, n) (omega (arith, count_filter_or a b p xs apart, count_by-cons p x (filter (λ x. a x || b x) xs), count_by-cons p x (filter a xs))))
  | inr n ↦ elim (cases_Bool (b x)) [
    | inl y ↦ rw (n, y) (omega (arith, count_filter_or a b p xs apart, count_by-cons p x (filter (λ x. a x || b x) xs), count_by-cons p x (filter b xs)))
    | inr m ↦ rw (n, m) (count_filter_or a b p xs apart)
  ]
]

any_filter_or : (a b : Placed → Bool) (p : Placed → Bool) (xs : List Placed) → list_any p (filter (λ x. a x || b x) xs) ≡ (list_any p (filter a xs) || list_any p (filter b xs))
any_filter_or a b p [] = refl
any_filter_or a b p (x ∷ xs) = elim (cases_Bool (a x)) [
  | inl y ↦ elim (cases_Bool (b x)) [
    | inl z ↦ rw (y, z) (ap (λ r. p x || r) (any_filter_or a b p xs) ∙ both (p x) (list_any p (filter a xs)) (list_any p (filter b xs)))
    | inr z ↦ rw (y, z) (ap (λ r. p x || r) (any_filter_or a b p xs) ∙ left (p x) (list_any p (filter a xs)) (list_any p (filter b xs)))
  ]
  | inr n ↦ elim (cases_Bool (b x)) [
    | inl z ↦ rw (n, z) (ap (λ r. p x || r) (any_filter_or a b p xs) ∙ right (p x) (list_any p (filter a xs)) (list_any p (filter b xs)))
    | inr m ↦ rw (n, m) (any_filter_or a b p xs)
  ]
]
  where
    both : (u v w : Bool) → (u || (v || w)) ≡ ((u || v) || (u || w))
    both u v w = grind arith

    left : (u v w : Bool) → (u || (v || w)) ≡ ((u || v) || w)
    left u v w = grind arith

    right : (u v w : Bool) → (u || (v || w)) ≡ (v || (u || w))
    right u v w = grind arith

none_of : (t : List Placed) → lectures_of [] t ≡ []
none_of [] = refl
none_of (x ∷ xs) = none_of xs

-- the lectures of a curriculum, by its first member and the others
member_first : (m : ℕ) (q : List ℕ) (t : List Placed) → lectures_of (m ∷ q) t ≡ filter (λ (l : Placed). (l.course == m) || has l.course q) t
member_first m q [] = refl
member_first m q (x ∷ xs) = ap₂ (λ b ls. cond (b || has x.course q) (x ∷ ls) ls) (turn m x.course) (member_first m q xs)
  where
    turn : (a b : ℕ) → (a == b) ≡ (b == a)
    turn a b = grind arith

-- some lecture of some member passes exactly if some lecture of the curriculum passes
pub any_lecture : (p : Placed → Bool) (q : List ℕ) (t : List Placed) → list_any (λ m. list_any p (course_row m t)) q ≡ list_any p (lectures_of q t)
any_lecture p [] t = sym (ap (list_any p) (none_of t))
any_lecture p (m ∷ q) t = ap (λ b. list_any p (course_row m t) || b) (any_lecture p q t) ∙ sym (ap (list_any p) (member_first m q t) ∙ any_filter_or (λ l. l.course == m) (λ l. has l.course q) p t)

pub busy_lectures : (q : List ℕ) (t : List Placed) (s : ℕ) → list_any (λ m. busy (course_row m t) s) q ≡ busy (lectures_of q t) s
busy_lectures q t s = any_lecture (λ l. l.slot == s) q t

absent : (m : ℕ) (q : List ℕ) → Each (λ d. (m == d) ≡ false) q → has m q ≡ false
absent m [] h = refl
absent m (d ∷ q) h = ap₂ (λ a b. a || b) (turn d m ∙ h.0) (absent m q h.1)
  where
    turn : (a b : ℕ) → (a == b) ≡ (b == a)
    turn a b = grind arith

-- a count over the lectures of different courses, row by row
pub count_lectures : (p : Placed → Bool) (q : List ℕ) (t : List Placed) → Pairwise (λ c d. (c == d) ≡ false) q → sum_by (λ m. count_by p (course_row m t)) q ≡ count_by p (lectures_of q t)
count_lectures p [] t h = sym (ap (count_by p) (none_of t))
count_lectures p (m ∷ q) t h =
    sum_by-cons (λ m. count_by p (course_row m t)) m q ∙ ap (λ n. count_by p (course_row m t) + n) (count_lectures p q t h.1)
    ∙ sym (ap (count_by p) (member_first m q t) ∙ count_filter_or (λ l. l.course == m) (λ l. has l.course q) p t (λ x k. ap (λ c. has c q) (eqb-true x.course m k) ∙ absent m q h.0))

pub count_lectures_le : (p : Placed → Bool) (q : List ℕ) (t : List Placed) → count_by p (lectures_of q t) ≤ length t
count_lectures_le p q t = omega (arith, count_by-le-length p (lectures_of q t), length-filter (λ (l : Placed). has l.course q) t, count_by-le-length (λ (l : Placed). has l.course q) t)
