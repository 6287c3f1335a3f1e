-- One more lecture: sums over the lectures, and what is computed from them.
use Rattle.std.proofs.Common.{◌≡◌, ℕ, cond, ◌+◌, Bool, true, not, List, [], ◌∷◌, Some, ◌∙◌, sym, ap, ap₂, arith, inl, inr}
use Rattle.std.specs.List.{find, sum_by, count_by, AllByRecursion as Each}
use Rattle.std.proofs.lemmas.Bool.{cases_Bool}
use Rattle.std.proofs.lemmas.Bool.Decides.{nat_tests}
use Rattle.std.proofs.lemmas.List.Sums.{sum_by-cons}
use Rattle.ctt_problem.specs.Lists.{put}
use Rattle.ctt_problem.specs.Timetable.{before, Ascending, with, without}
use Rattle.ctt_problem.specs.declared.placed.Placed.{Placed}
use Rattle.ctt_problem.proofs.TimetableLemmas.{Each-map}
use Rattle.ctt_rules.proofs.ListLemmas.{filter_every}
use Rattle.ctt_board.specs.Changes.{room_at, room_of}
use Rattle.ctt_board.proofs.RoomLemmas.{is_at, room_is}

-- u has the lectures of t and l, in any order
abbrev pub IsMore : Placed → List Placed → List Placed → Type 0
IsMore l t u = (f : Placed → ℕ) → sum_by f u ≡ f l + sum_by f t

-- a count with one more lecture
pub counted_more : (l : Placed) (t u : List Placed) → IsMore l t u → (p : Placed → Bool) → count_by p u ≡ cond (p l) 1 0 + count_by p t
counted_more l t u more p = more (λ x. cond (p x) 1 0)

sum_put : {X : Type 0} (f : X → ℕ) (lt : X → X → Bool) (l : X) (xs : List X) → sum_by f (put lt l xs) ≡ f l + sum_by f xs
sum_put f lt l [] = sum_by-cons f l []
sum_put f lt l (x ∷ xs) = elim (cases_Bool (lt l x)) [
  | inl y ↦ rw y (sum_by-cons f l (x ∷ xs))
  | inr n ↦ rw n (omega (arith, sum_by-cons f x (put lt l xs), sum_by-cons f x xs, sum_put f lt l xs))
]

-- a lecture that is added
pub more_with : (l : Placed) (t : List Placed) → IsMore l t (with l t)
more_with l t f = sum_put f before l t

-- no lecture after it is of that course and slot
pub only_one : (c s : ℕ) (x : Placed) (xs : List Placed) → is_at c s x ≡ true → Each (λ y. before x y ≡ true) xs → Each (λ y. not (is_at c s y) ≡ true) xs
only_one c s x xs e h = Each-map (λ y. before x y ≡ true) (λ y. not (is_at c s y) ≡ true) (λ y k. grind (arith, nat_tests)) xs h

sum_without : (f : Placed → ℕ) (c s r : ℕ) (t : List Placed) → Ascending t → room_of (find (is_at c s) t) ≡ Some r → sum_by f t ≡ f (record { course = c; slot = s; room = r }) + sum_by f (without c s t)
sum_without f c s r [] h e = cc
sum_without f c s r (x ∷ xs) h e = elim (cases_Bool (is_at c s x)) [
  | inl y ↦ (
      let others : without c s xs ≡ xs = filter_every (λ l. not (is_at c s l)) xs (only_one c s x xs y h.0) in
      let room : Some x.room ≡ Some r = (rw y at e) in
      let is : f (record { course = c; slot = s; room = r }) ≡ f x = same x y room in
      rw (y, others) (omega (arith, sum_by-cons f x xs, is)))
  | inr n ↦ (let e' : room_of (find (is_at c s) xs) ≡ Some r = (rw n at e) in rw n (omega (arith, sum_by-cons f x (without c s xs), sum_by-cons f x xs, sum_without f c s r xs h.1 e')))
]
  where
    same : (x : Placed) → is_at c s x ≡ true → Some x.room ≡ Some r → f (record { course = c; slot = s; room = r }) ≡ f x
    same x y room =
        let course : x.course ≡ c = grind (arith, nat_tests, y) in
        let slot : x.slot ≡ s = grind (arith, nat_tests, y) in
        let it : x.room ≡ r = cc in
        sym (ap₂ (λ a b. f (record { course = a; slot = b; room = x.room })) course slot ∙ ap (λ o. f (record { course = c; slot = s; room = o })) it)

-- and one that is removed
pub more_without : (c s r : ℕ) (t : List Placed) → Ascending t → room_at c s t ≡ Some r → IsMore (record { course = c; slot = s; room = r }) (without c s t) t
more_without c s r t h e f = sum_without f c s r t h (sym (room_is c s t) ∙ e)
