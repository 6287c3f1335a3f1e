-- A course has a room in a slot exactly if the room has that course.
use Rattle.std.proofs.Common.{◌≡◌, ℕ, ◌<◌, true, false, List, [], ◌∷◌, Option, Some, None, IfSome, refl, ◌∙◌, sym, ap, subst, arith, inl, inr}
use Rattle.std.specs.List.{find}
use Rattle.std.proofs.lemmas.Bool.{cases_Bool, eq-eqb}
use Rattle.std.proofs.lemmas.Bool.Decides.{nat_tests}
use Rattle.ctt_problem.specs.Problem.{Problem, course_count}
use Rattle.ctt_problem.specs.Timetable.{before, Ascending, IsTimetable, with, without}
use Rattle.ctt_problem.specs.declared.placed.Placed.{Placed}
use Rattle.ctt_rules.specs.Hard.{Lawful}
use Rattle.ctt_board.specs.Changes.{room_at, room_of, holder_at, course_named}
use Rattle.ctt_board.proofs.BetweenLemmas.{somewhere, there_fits}
use Rattle.ctt_board.proofs.HolderLemmas.{Apart, is_in, holder_is, holder_with, removed_back}
use Rattle.ctt_board.proofs.RoomLemmas.{is_at, room_is}

pub held : (i : Problem) (c s r : ℕ) (t : List Placed) → Lawful i t → room_at c s t ≡ Some r → holder_at s r t ≡ Some c
held i c s r t h e =
    let l : Placed = record { course = c; slot = s; room = r } in
    let back : with l (without c s t) ≡ t = removed_back c s r t h.timetable.ascending (sym (room_is c s t) ∙ e) in
    sym (ap (holder_at s r) back) ∙ holder_with l (without c s t) s r (subst Apart (sym back) h.rooms_apart) ∙ rw (eq-eqb s s refl, eq-eqb r r refl) refl

found_at : (c s r : ℕ) (t : List Placed) → Ascending t → course_named (find (is_in s r) t) ≡ Some c → room_of (find (is_at c s) t) ≡ Some r
found_at c s r [] h e = cc
found_at c s r (x ∷ xs) h e = elim (cases_Bool (is_in s r x)) [
  | inl y ↦ (
      let course : Some x.course ≡ Some c = (rw y at e) in
      let own : x.course ≡ c = cc in
      let here : is_at c s x ≡ true = grind (arith, nat_tests) in
      let room : x.room ≡ r = grind (arith, nat_tests) in
      rw here (ap Some room))
  | inr n ↦ (
      let e' : course_named (find (is_in s r) xs) ≡ Some c = (rw n at e) in
      let later = found_at c s r xs h.1 e' in
      let there = somewhere (λ z. before x z ≡ true) (is_at c s) xs r h.0 later in
      let not_here : is_at c s x ≡ false = earlier x there.0 there.1 there.2 in
      rw not_here later)
]
  where
    earlier : (x z : Placed) → before x z ≡ true → is_at c s z ≡ true → is_at c s x ≡ false
    earlier x z b k = grind (arith, nat_tests)

pub stands : (i : Problem) (c s r : ℕ) (t : List Placed) → IsTimetable i t → holder_at s r t ≡ Some c → room_at c s t ≡ Some r
stands i c s r t h e = room_is c s t ∙ found_at c s r t h.ascending (sym (holder_is s r t) ∙ e)

-- the course that has a room is one of the instance
pub holder_fits : (i : Problem) (s r : ℕ) (t : List Placed) (o : Option ℕ) → Lawful i t → o ≡ holder_at s r t → IfSome o (λ c. c < course_count i)
holder_fits i s r t None h e = tt
holder_fits i s r t (Some c) h e = (let f = there_fits i c s r t h (stands i c s r t h.timetable (sym e)) in f.0)

-- a course that has the same room in a slot of two timetables
pub held_too : (i : Problem) (c s r : ℕ) (t u : List Placed) → Lawful i t → Lawful i u → holder_at s r t ≡ Some c → room_at c s t ≡ room_at c s u → holder_at s r u ≡ Some c
held_too i c s r t u h k e same = held i c s r u k (sym same ∙ stands i c s r t h.timetable e)
