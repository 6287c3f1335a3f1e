-- Timetables, by their neighbours.
use Rattle.std.proofs.Common.{◌≡◌, ℕ, zero, suc, ◌+◌, ◌<◌, List, [], ◌∷◌, ◌++◌, length, Bool, true, get_or, arith, false, refl, IsTrue, ◌↔◌}
use Rattle.std.specs.List.{AllByRecursion as Each}
use Rattle.std.specs.Bool.{OnTrue, OnFalse}
use Rattle.std.proofs.lemmas.Bool.Decides.{nat_tests}
use Rattle.ctt_problem.specs.declared.placed.Placed.{Placed}
use Rattle.ctt_problem.specs.Problem.{Problem}
use Rattle.ctt_problem.specs.Timetable.{IsTimetable, ByNeighbours, Ascending, Fits, before}

-- what holds of each element, by index
pub Each-from_index : {X : Type 0} (P : X → Type 0) (xs : List X) → ((k : ℕ) (d : X) → k < length xs → P (get_or xs k d)) → Each P xs
Each-from_index P [] h = tt
Each-from_index P (x ∷ xs) h = (h 0 x (omega arith), Each-from_index P xs (λ k d lt. h (suc k) d (omega (arith, lt))))

pub Each-at : {X : Type 0} (P : X → Type 0) (xs : List X) → Each P xs → (k : ℕ) (d : X) → k < length xs → P (get_or xs k d)
Each-at P [] h k d lt = absurd (omega (arith, lt))
Each-at P (x ∷ xs) h zero d lt = h.0
Each-at P (x ∷ xs) h (suc k) d lt = Each-at P xs h.1 k d (omega (arith, lt))

pub Each-map : {X : Type 0} (P Q : X → Type 0) → ((x : X) → P x → Q x) → (xs : List X) → Each P xs → Each Q xs
Each-map P Q f [] h = tt
Each-map P Q f (x ∷ xs) h = (f x h.0, Each-map P Q f xs h.1)

pub Each-append : {X : Type 0} (P : X → Type 0) (xs ys : List X) → Each P xs → Each P ys → Each P (xs ++ ys)
Each-append P [] ys h k = k
Each-append P (x ∷ xs) ys h k = (h.0, Each-append P xs ys h.1 k)

pub before_trans : (a b c : Placed) → before a b ≡ true → before b c ≡ true → before a c ≡ true
before_trans a b c h k = grind (arith, nat_tests)

later : (k : ℕ) → suc k + 1 ≡ suc (k + 1)
later k = omega arith

-- a list whose neighbours are in order is sorted
ascends_on : (x : Placed) (t : List Placed) → ((d : Placed) → 0 < length t → before x (get_or t 0 d) ≡ true) → Ascending t → Each (λ b. before x b ≡ true) t
ascends_on x [] first rest = tt
ascends_on x (y ∷ ys) first rest =
    let here : before x y ≡ true = first y (omega arith) in
    (here, Each-map (λ b. before y b ≡ true) (λ b. before x b ≡ true) (λ b h. before_trans x y b here h) ys rest.0)

pub Ascending-from_neighbours : (t : List Placed) → ((k : ℕ) (d : Placed) → k + 1 < length t → before (get_or t k d) (get_or t (k + 1) d) ≡ true) → Ascending t
Ascending-from_neighbours [] h = tt
Ascending-from_neighbours (x ∷ xs) h =
    let rest : Ascending xs = Ascending-from_neighbours xs (λ k d lt. rw (later k) at (h (suc k) d (omega (arith, lt)))) in
    (ascends_on x xs (λ d lt. h 0 d (omega (arith, lt))) rest, rest)

pub Ascending-at : (t : List Placed) → Ascending t → (k : ℕ) (d : Placed) → k + 1 < length t → before (get_or t k d) (get_or t (k + 1) d) ≡ true
Ascending-at [] h k d lt = absurd (omega (arith, lt))
Ascending-at (x ∷ xs) h zero d lt = Each-at (λ b. before x b ≡ true) xs h.0 0 d (omega (arith, lt))
Ascending-at (x ∷ xs) h (suc k) d lt = rw (later k) (Ascending-at xs h.1 k d (omega (arith, lt)))

pub IsTimetable-from_neighbours : (i : Problem) (t : List Placed) → ByNeighbours i t → IsTimetable i t
IsTimetable-from_neighbours i t h = record { ascending = Ascending-from_neighbours t h.ascending; fits = Each-from_index (Fits i) t h.fits }

pub IsTimetable-neighbours : (i : Problem) (t : List Placed) → IsTimetable i t → ByNeighbours i t
IsTimetable-neighbours i t h = record { fits = Each-at (Fits i) t h.fits; ascending = Ascending-at t h.ascending }

-- a test that decides a fact decides each equivalent fact
pub decides : (b : Bool) (P Q : Type 0) → OnTrue b P → OnFalse b (P → ⊥) → (P → Q) → (Q → P) → IsTrue b ↔ Q
decides true P Q holds fails to from = (λ _. to holds, λ _. refl)
decides false P Q holds fails to from = (λ h. cc, λ q. absurd (fails (from q)))
