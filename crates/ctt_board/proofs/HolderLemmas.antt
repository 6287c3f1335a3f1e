-- Which course has a room in a slot, after one lecture is added and after one is removed.
use Rattle.std.proofs.Common.{◌≡◌, ℕ, Bool, true, false, cond, not, ◌&&◌, ◌==◌, List, [], ◌∷◌, Option, Some, None, refl, ◌∙◌, sym, ap, ap₂, subst, inl, inr, ◌⊎◌, arith}
use Rattle.std.specs.List.{find, AllByRecursion as Each}
use Rattle.std.proofs.lemmas.Bool.{cases_Bool}
use Rattle.std.proofs.lemmas.Bool.Decides.{nat_tests}
use Rattle.ctt_problem.specs.Lists.{Pairwise}
use Rattle.ctt_problem.specs.Problem.{Problem}
use Rattle.ctt_problem.specs.Timetable.{before, Ascending, with, without}
use Rattle.ctt_problem.specs.declared.placed.Placed.{Placed}
use Rattle.ctt_problem.proofs.TimetableLemmas.{Each-map}
use Rattle.ctt_rules.specs.Hard.{Lawful, share_room}
use Rattle.ctt_rules.proofs.ListLemmas.{filter_every}
use Rattle.ctt_board.specs.Changes.{room_at, room_of, course_named, holder_at}
use Rattle.ctt_board.proofs.PutLemmas.{put_before}
use Rattle.ctt_board.proofs.MoreLemmas.{only_one}
use Rattle.ctt_board.proofs.BetweenLemmas.{put_has, somewhere}
use Rattle.ctt_board.proofs.RoomLemmas.{is_at, room_is, find-filter, find_put_yes, find_put_no}

-- a lecture has a room in a slot
abbrev pub is_in : ℕ → ℕ → Placed → Bool
is_in s r l = l.slot == s && l.room == r

abbrev pub found_in : ℕ → ℕ → List Placed → Option ℕ
found_in s r t = course_named (find (is_in s r) t)

pub holder_is : (s r : ℕ) (t : List Placed) → holder_at s r t ≡ found_in s r t
holder_is s r t = ap course_named (find-filter (λ l. l.slot == s) (λ l. l.room == r) t)

abbrev pub Apart : List Placed → Type 0
Apart t = Pairwise (λ a b. share_room a b ≡ false) t

turned : (a b : Placed) → share_room a b ≡ false → share_room b a ≡ false
turned a b h = grind (arith, nat_tests)

-- the other lectures do not share its room
apart_put : (l : Placed) (t : List Placed) → Apart (with l t) → Each (λ x. share_room x l ≡ false) t
apart_put l [] h = tt
apart_put l (x ∷ xs) h = at (cases_Bool (before l x)) (apart_put l xs)
  where
    at : (before l x ≡ true) ⊎ (before l x ≡ false) → (Apart (with l xs) → Each (λ z. share_room z l ≡ false) xs) → Each (λ z. share_room z l ≡ false) (x ∷ xs)
    at (inl y) more = (let h' : Apart (l ∷ x ∷ xs) = (rw y at h) in Each-map (λ z. share_room l z ≡ false) (λ z. share_room z l ≡ false) (λ z k. turned l z k) (x ∷ xs) h'.0)
    at (inr n) more = (let h' : Apart (x ∷ with l xs) = (rw n at h) in (put_has (λ z. share_room x z ≡ false) l xs h'.0, more h'.1))

pub find_nowhere : {X : Type 0} (p : X → Bool) (xs : List X) → Each (λ x. p x ≡ false) xs → find p xs ≡ None
find_nowhere p [] h = refl
find_nowhere p (x ∷ xs) h = rw h.0 (find_nowhere p xs h.1)

-- so no other course has it
pub free_else : (l : Placed) (s r : ℕ) (t : List Placed) → Apart (with l t) → is_in s r l ≡ true → find (is_in s r) t ≡ None
free_else l s r t h y = find_nowhere (is_in s r) t (Each-map (λ x. share_room x l ≡ false) (λ x. is_in s r x ≡ false) (λ x k. grind (arith, nat_tests)) t (apart_put l t h))

found_with : (l : Placed) (t : List Placed) (s r : ℕ) → Apart (with l t) → found_in s r (with l t) ≡ cond (l.slot == s && l.room == r) (Some l.course) (found_in s r t)
found_with l t s r h = elim (cases_Bool (is_in s r l)) [
  | inl y ↦ rw y (ap course_named (find_put_yes (is_in s r) before l t y (free_else l s r t h y)))
  | inr n ↦ rw n (ap course_named (find_put_no (is_in s r) before l t n))
]

pub holder_with : (l : Placed) (t : List Placed) (s r : ℕ) → Apart (with l t) → holder_at s r (with l t) ≡ cond (l.slot == s && l.room == r) (Some l.course) (holder_at s r t)
holder_with l t s r h = holder_is s r (with l t) ∙ found_with l t s r h ∙ ap (cond (l.slot == s && l.room == r) (Some l.course)) (sym (holder_is s r t))

-- a lecture that is taken out and put back
pub removed_back : (c s r : ℕ) (t : List Placed) → Ascending t → room_of (find (is_at c s) t) ≡ Some r → with (record { course = c; slot = s; room = r }) (without c s t) ≡ t
removed_back c s r [] h e = cc
removed_back c s r (x ∷ xs) h e = elim (cases_Bool (is_at c s x)) [
  | inl y ↦ (
      let l : Placed = record { course = c; slot = s; room = r } in
      let others : without c s xs ≡ xs = filter_every (λ l. not (is_at c s l)) xs (only_one c s x xs y h.0) in
      let room : Some x.room ≡ Some r = (rw y at e) in
      let is : l ≡ x = same x y room in
      rw (y, others) (ap (λ z. with z xs) is ∙ put_before before x xs h.0))
  | inr n ↦ (
      let l : Placed = record { course = c; slot = s; room = r } in
      let e' : room_of (find (is_at c s) xs) ≡ Some r = (rw n at e) in
      let there = somewhere (λ z. before x z ≡ true) (is_at c s) xs r h.0 e' in
      let later : before l x ≡ false = after_it x there.0 there.1 there.2 in
      rw (n, later) (ap (λ ys. x ∷ ys) (removed_back c s r xs h.1 e')))
]
  where
    same : (x : Placed) → is_at c s x ≡ true → Some x.room ≡ Some r → ◌≡◌ {A = Placed} (record { course = c; slot = s; room = r }) x
    same x y room =
        let course : x.course ≡ c = grind (arith, nat_tests, y) in
        let slot : x.slot ≡ s = grind (arith, nat_tests, y) in
        let it : x.room ≡ r = cc in
        sym (ap₂ (λ a b. record { course = a; slot = b; room = x.room }) course slot ∙ ap (λ o. record { course = c; slot = s; room = o }) it)

    after_it : (x z : Placed) → before x z ≡ true → is_at c s z ≡ true → before (record { course = c; slot = s; room = r }) x ≡ false
    after_it x z b k = grind (arith, nat_tests)

pub holder_without : (i : Problem) (l : Placed) (t : List Placed) (s r : ℕ) → Lawful i t → room_at l.course l.slot t ≡ Some l.room → holder_at s r (without l.course l.slot t) ≡ cond (l.slot == s && l.room == r) None (holder_at s r t)
holder_without i l t s r h there =
    let u : List Placed = without l.course l.slot t in
    let back : with l u ≡ t = removed_back l.course l.slot l.room t h.timetable.ascending (sym (room_is l.course l.slot t) ∙ there) in
    let apart : Apart (with l u) = subst Apart (sym back) h.rooms_apart in
    elim (cases_Bool (is_in s r l)) [
      | inl y ↦ rw y (holder_is s r u ∙ ap course_named (free_else l s r u apart y))
      | inr n ↦ rw n (ap (λ b. cond b (Some l.course) (holder_at s r u)) (sym n) ∙ sym (holder_with l u s r apart) ∙ ap (holder_at s r) back)
    ]
