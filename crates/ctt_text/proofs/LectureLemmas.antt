-- A table of rooms, as the list of its lectures.
use Rattle.std.proofs.Common.{◌≡◌, ◌≢◌, ℕ, zero, suc, ◌+◌, ◌*◌, ◌/◌, ◌%◌, ◌<◌, ◌≤◌, List, [], ◌∷◌, ◌++◌, length, get_or, set, drop, take, replicate, ◌-◌, Bool, true, false, ◌&&◌, ◌||◌, ◌==◌, nat_lt, Option, Some, None, is_some, inl, inr, refl, sym, ap, ap₂, ◌∙◌, arith, true≢false}
use Rattle.std.proofs.lemmas.Bool.{cases_order, eq-eqb, eqb-true, lt-ltb, and_parts}
use Rattle.std.proofs.lemmas.Bool.Decides.{nat_tests}
use Rattle.std.proofs.lemmas.List.{drop_more}
use Rattle.std.proofs.lemmas.Nat.{div-mul-add, mod-mul-add, div-add-mod', mod_below}
use Rattle.std.proofs.Math.Nat.{mul-le-mul_right}
use Rattle.std.proofs.Math.Seq.{take-nil}
use Rattle.ctt_problem.proofs.TableLemmas.{bool_case}
use Rattle.ctt_problem.specs.declared.placed.Placed.{Placed}
use Rattle.ctt_problem.specs.Timetable.{before, has_lecture, with}
use Rattle.ctt_text.specs.Lectures.{lecture_in, listed}

-- the order of places is that of courses and slots
row_order : (n c s d e : ℕ) → s < n → e < n → c * n + s < d * n + e → (nat_lt c d || (c == d && nat_lt s e)) ≡ true
row_order n c s d e here there lt = elim (cases_order c d) [
  | inl same ↦ (
      let rows : c * n ≡ d * n = ap (λ a. a * n) same in
      let next : s < e = omega (arith, rows, lt) in
      grind (arith, nat_tests, same, next))
  | inr (inl less) ↦ grind (arith, nat_tests, less)
  | inr (inr more) ↦ (
      let rows : suc d * n ≤ c * n = mul-le-mul_right n more in
      absurd (omega (arith, rows, lt, there)))
]

no_row_order : (n c s d e : ℕ) → s < n → e < n → d * n + e < c * n + s → (nat_lt c d || (c == d && nat_lt s e)) ≡ false
no_row_order n c s d e here there lt = elim (cases_order c d) [
  | inl same ↦ (
      let rows : c * n ≡ d * n = ap (λ a. a * n) same in
      let next : e < s = omega (arith, rows, lt) in
      grind (arith, nat_tests, same, next))
  | inr (inl less) ↦ (
      let rows : suc c * n ≤ d * n = mul-le-mul_right n less in
      absurd (omega (arith, rows, lt, here)))
  | inr (inr more) ↦ grind (arith, nat_tests, more)
]

-- other places are of other courses or slots
is_other : (n c s d e : ℕ) → d * n + e ≢ c * n + s → (d == c && e == s) ≡ false
is_other n c s d e apart = bool_case _ (d == c && e == s)
    (λ is. let parts = and_parts (d == c) (e == s) is in absurd (apart (ap₂ (λ a b. a * n + b) (eqb-true d c parts.0) (eqb-true e s parts.1))))
    (λ isnt. isnt)

module _ (slots course slot : ℕ) (in_row : slot < slots) where
  some : 0 < slots
  some = omega (arith, in_row)

  abbrev in_place : ℕ → Placed
  in_place room = record { course = course; slot = slot; room = room }

  abbrev at : ℕ → ℕ → Placed
  at q room = record { course = q / slots; slot = q % slots; room = room }

  its_course : (q : ℕ) → q + 0 ≡ course * slots + slot → q / slots ≡ course
  its_course q e = (let is : q ≡ course * slots + slot = omega (arith, e) in ap (λ p. p / slots) is ∙ div-mul-add course slots slot in_row)

  its_slot : (q : ℕ) → q + 0 ≡ course * slots + slot → q % slots ≡ slot
  its_slot q e = (let is : q ≡ course * slots + slot = omega (arith, e) in ap (λ p. p % slots) is ∙ mod-mul-add course slots slot in_row)

  goes_before : (q room r : ℕ) → course * slots + slot < q → before (in_place room) (at q r) ≡ true
  goes_before q room r lt =
      let is : q / slots * slots + q % slots ≡ q = div-add-mod' q slots in
      row_order slots course slot (q / slots) (q % slots) in_row (mod_below q slots some) (omega (arith, is, lt))

  goes_after : (q room r : ℕ) → q < course * slots + slot → before (in_place room) (at q r) ≡ false
  goes_after q room r lt =
      let is : q / slots * slots + q % slots ≡ q = div-add-mod' q slots in
      no_row_order slots course slot (q / slots) (q % slots) in_row (mod_below q slots some) (omega (arith, is, lt))

  elsewhere : (q : ℕ) → q ≢ course * slots + slot → (q / slots == course && q % slots == slot) ≡ false
  elsewhere q apart =
      let is : q / slots * slots + q % slots ≡ q = div-add-mod' q slots in
      is_other slots course slot (q / slots) (q % slots) (λ e. apart (sym is ∙ e))

  none_after : (rooms : List (Option ℕ)) (q : ℕ) → course * slots + slot < q → has_lecture course slot (listed slots q rooms) ≡ false
  none_after [] q lt = refl
  none_after (None ∷ rooms) q lt = none_after rooms (q + 1) (omega (arith, lt))
  none_after (Some r ∷ rooms) q lt = rw (elsewhere q (λ e. omega (arith, e, lt))) (none_after rooms (q + 1) (omega (arith, lt)))

  -- the course has a lecture in the slot exactly if its place has a room
  pub has_at : (rooms : List (Option ℕ)) (q k : ℕ) (d : Option ℕ) → q + k ≡ course * slots + slot → k < length rooms → has_lecture course slot (listed slots q rooms) ≡ is_some (get_or rooms k d)
  has_at [] q k d e lt = absurd (omega (arith, lt))
  has_at (None ∷ rooms) q zero d e lt = none_after rooms (q + 1) (omega (arith, e))
  has_at (Some r ∷ rooms) q zero d e lt = rw (eq-eqb (q / slots) course (its_course q e), eq-eqb (q % slots) slot (its_slot q e)) refl
  has_at (None ∷ rooms) q (suc k) d e lt = has_at rooms (q + 1) k d (omega (arith, e)) (omega (arith, lt))
  has_at (Some r ∷ rooms) q (suc k) d e lt = rw (elsewhere q (λ f. omega (arith, e, f))) (has_at rooms (q + 1) k d (omega (arith, e)) (omega (arith, lt)))

  put_first : (room : ℕ) (rooms : List (Option ℕ)) (q : ℕ) → course * slots + slot < q → with (in_place room) (listed slots q rooms) ≡ in_place room ∷ listed slots q rooms
  put_first room [] q lt = refl
  put_first room (None ∷ rooms) q lt = put_first room rooms (q + 1) (omega (arith, lt))
  put_first room (Some r ∷ rooms) q lt = rw (goes_before q room r lt) refl

  -- a room written into an empty place is the lecture inserted in order
  pub with_at : (room : ℕ) (rooms : List (Option ℕ)) (q k : ℕ) (d : Option ℕ) → q + k ≡ course * slots + slot → k < length rooms → is_some (get_or rooms k d) ≡ false
      → listed slots q (set rooms k (Some room)) ≡ with (in_place room) (listed slots q rooms)
  with_at room [] q k d e lt free = absurd (omega (arith, lt))
  with_at room (None ∷ rooms) q zero d e lt free = ap₂ (λ a b. record { course = a; slot = b; room = room } ∷ listed slots (q + 1) rooms) (its_course q e) (its_slot q e) ∙ sym (put_first room rooms (q + 1) (omega (arith, e)))
  with_at room (Some r ∷ rooms) q zero d e lt free = absurd (true≢false free)
  with_at room (None ∷ rooms) q (suc k) d e lt free = with_at room rooms (q + 1) k d (omega (arith, e)) (omega (arith, lt)) free
  with_at room (Some r ∷ rooms) q (suc k) d e lt free = rw (goes_after q room r (omega (arith, e))) (ap (λ t. at q r ∷ t) (with_at room rooms (q + 1) k d (omega (arith, e)) (omega (arith, lt)) free))

-- an empty list that is made longer
pub filled : (n len : ℕ) (old : List (Option ℕ)) (o : Option ℕ) → old ≡ [] → len ≡ 0 → o ≡ None → take n old ++ replicate (n - len) o ≡ replicate n None
filled n len old o e1 e2 e3 =
    let all : n - len ≡ n = omega (arith, e2) in
    ap₂ (λ xs m. xs ++ replicate m o) (ap (take n) e1 ∙ take-nil n) all ∙ ap (replicate n) e3

-- a table without rooms
pub none_listed : (slots q n : ℕ) → listed slots q (replicate n None) ≡ []
none_listed slots q zero = refl
none_listed slots q (suc n) = none_listed slots (q + 1) n

-- the lectures up to a place, and those from there on
pub listed_more : (slots k : ℕ) (rooms : List (Option ℕ)) (room d : Option ℕ) (so_far whole : List Placed) → k < length rooms → room ≡ get_or rooms k d
    → so_far ++ listed slots k (drop k rooms) ≡ whole → (so_far ++ lecture_in slots k room) ++ listed slots (k + 1) (drop (k + 1) rooms) ≡ whole
listed_more slots k rooms room d so_far whole lt is h =
    assoc so_far (lecture_in slots k room) (listed slots (k + 1) (drop (k + 1) rooms))
    ∙ ap (λ o. so_far ++ (lecture_in slots k o ++ listed slots (k + 1) (drop (k + 1) rooms))) is
    ∙ ap (λ os. so_far ++ listed slots k os) (sym (drop_more rooms k d lt))
    ∙ h
  where
    assoc : (a b c : List Placed) → (a ++ b) ++ c ≡ a ++ (b ++ c)
    assoc [] b c = refl
    assoc (x ∷ a) b c = ap (λ l. x ∷ l) (assoc a b c)
