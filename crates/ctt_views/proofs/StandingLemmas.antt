-- Each lecture in the cell of its slot, and in no other.
use Rattle.std.proofs.Common.{◌≡◌, ℕ, ◌≤◌, Bool, true, false, cond, ◌==◌, ◌&&◌, ◌||◌, nat_lt, List, [], ◌∷◌, refl, ◌∙◌, sym, ap, ap₂, arith, inl, inr}
use Rattle.std.specs.List.{count_by, filter, AllByRecursion as Each}
use Rattle.std.proofs.lemmas.Bool.{cases_Bool}
use Rattle.std.proofs.lemmas.Bool.Decides.{nat_tests}
use Rattle.std.proofs.lemmas.List.Sums.{sum_by-cons}
use Rattle.ctt_problem.specs.Lists.{has}
use Rattle.ctt_problem.specs.Problem.{Problem, course_of, members, slot_count}
use Rattle.ctt_problem.specs.Timetable.{Ascending, before}
use Rattle.ctt_problem.specs.declared.placed.Placed.{Placed}
use Rattle.ctt_views.specs.Cells.{cell_lectures}
use Rattle.ctt_views.specs.Grids.{is_of}
use Rattle.ctt_views.specs.Laws.{LecturesStandOnce, times}
use Rattle.ctt_views.specs.Weeks.{by_slot}
use Rattle.ctt_views.specs.declared.grid.Grid.{Grid}
use Rattle.ctt_views.specs.declared.grid.Grid.TheVariants.{Course, Curriculum, Room, Teacher}
use Rattle.ctt_views.proofs.BySlotLemmas.{row_at}

-- one filter after another
filter_both : {X : Type 0} (p q : X → Bool) (xs : List X) → filter p (filter q xs) ≡ filter (λ x. q x && p x) xs
filter_both p q [] = refl
filter_both p q (x ∷ xs) = elim (cases_Bool (q x)) [
  | inl y ↦ rw y (ap (λ ys. cond (p x) (x ∷ ys) ys) (filter_both p q xs))
  | inr n ↦ rw n (filter_both p q xs)
]

-- if all that is counted passes, what does not pass is not counted; and the reverse
not_kept : (a b : Bool) → (a ≡ true → b ≡ true) → b ≡ false → a ≡ false
not_kept true b h n = let z : true ≡ false = sym (h refl) ∙ n in cc
not_kept false b h n = refl

not_dropped : (a b : Bool) → (a ≡ true → b ≡ false) → b ≡ true → a ≡ false
not_dropped true b h y = let z : false ≡ true = sym (h refl) ∙ y in cc
not_dropped false b h y = refl

-- a filter keeps all that are counted, or none of them
module _ {X : Type 0} (p q : X → Bool) where
  abbrev one : X → ℕ
  one x = cond (q x) 1 0

  kept : ((x : X) → q x ≡ true → p x ≡ true) → (xs : List X) → count_by q (filter p xs) ≡ count_by q xs
  kept h [] = refl
  kept h (x ∷ xs) = elim (cases_Bool (p x)) [
    | inl y ↦ rw y (omega (arith, sum_by-cons one x (filter p xs), kept h xs, sum_by-cons one x xs))
    | inr n ↦ (
        let out : q x ≡ false = not_kept (q x) (p x) (h x) n in
        rw n (omega (arith, kept h xs, sum_by-cons one x xs, ap (λ b. cond {A = ℕ} b 1 0) out)))
  ]

  dropped : ((x : X) → q x ≡ true → p x ≡ false) → (xs : List X) → count_by q (filter p xs) ≡ 0
  dropped h [] = refl
  dropped h (x ∷ xs) = elim (cases_Bool (p x)) [
    | inl y ↦ (
        let out : q x ≡ false = not_dropped (q x) (p x) (h x) y in
        rw y (omega (arith, sum_by-cons one x (filter p xs), ap (λ b. cond {A = ℕ} b 1 0) out, dropped h xs)))
    | inr n ↦ rw n (dropped h xs)
  ]

  counted : (b : Bool) → ((x : X) → q x ≡ true → p x ≡ b) → (xs : List X) → count_by q (filter p xs) ≡ cond b (count_by q xs) 0
  counted true h xs = kept h xs
  counted false h xs = dropped h xs

-- two lectures are the same
abbrev is_same : Placed → Placed → Bool
is_same l m = m.course == l.course && (m.slot == l.slot && m.room == l.room)

parts : (a b c d e f : ℕ) → (a == b && (c == d && e == f)) ≡ true → (a ≡ b) × (c ≡ d) × (e ≡ f)
parts a b c d e f h = (grind (arith, nat_tests), grind (arith, nat_tests), grind (arith, nat_tests))

-- the same lectures belong to the same grids and slots
same_place : (i : Problem) (g : Grid) (s : ℕ) (l m : Placed) → is_same l m ≡ true → (m.slot == s && is_of i g m) ≡ (l.slot == s && is_of i g l)
same_place i g s l m h =
    let p = parts m.course l.course m.slot l.slot m.room l.room h in
    ap₂ (λ a b. a && b) (ap (λ k. k == s) p.1) (by g p.0 p.2)
  where
    by : (g : Grid) → m.course ≡ l.course → m.room ≡ l.room → is_of i g m ≡ is_of i g l
    by (Curriculum q) c r = ap (λ k. has k (members i q)) c
    by (Teacher n) c r = ap (λ k. (course_of i k).teacher == n) c
    by (Room k) c r = ap (λ n. n == k) r
    by (Course k) c r = ap (λ n. n == k) c

-- a lecture occurs once in a timetable
none_behind : (l x : Placed) (xs : List Placed) → is_same l x ≡ true → Each (λ y. before x y ≡ true) xs → times l xs ≡ 0
none_behind l x [] e h = refl
none_behind l x (y ∷ ys) e h =
    let other : is_same l y ≡ false = differs x.course y.course x.slot y.slot x.room y.room l.course l.slot l.room h.0 e in
    omega (arith, sum_by-cons (λ m. cond (is_same l m) 1 0) y ys, ap (λ b. cond {A = ℕ} b 1 0) other, none_behind l x ys e h.1)
  where
    differs : (a b c d e f g h k : ℕ) → (nat_lt a b || (a == b && nat_lt c d)) ≡ true → (a == g && (c == h && e == k)) ≡ true → (b == g && (d == h && f == k)) ≡ false
    differs a b c d e f g h k p q = grind (arith, nat_tests)

at_most_once : (l : Placed) (t : List Placed) → Ascending t → times l t ≤ 1
at_most_once l [] h = omega arith
at_most_once l (x ∷ xs) h = elim (cases_Bool (is_same l x)) [
  | inl y ↦ omega (arith, sum_by-cons (λ m. cond (is_same l m) 1 0) x xs, ap (λ b. cond {A = ℕ} b 1 0) y, none_behind l x xs y h.0)
  | inr n ↦ omega (arith, sum_by-cons (λ m. cond (is_same l m) 1 0) x xs, ap (λ b. cond {A = ℕ} b 1 0) n, at_most_once l xs h.1)
]

pub lectures_stand_once : LecturesStandOnce
lectures_stand_once i t h g s lt = record {
  lectures = lectures;
  standing = λ l. ap (times l) lectures ∙ counted (λ m. m.slot == s && is_of i g m) (is_same l) (l.slot == s && is_of i g l) (λ m same. same_place i g s l m same) t;
  once = λ l. at_most_once l t h.ascending;
}
  where
    lectures : cell_lectures i (by_slot (slot_count i) t) g s ≡ filter (λ m. m.slot == s && is_of i g m) t
    lectures = ap (filter (is_of i g)) (row_at (slot_count i) t s lt) ∙ filter_both (is_of i g) (λ l. l.slot == s) t
