-- The order of a timetable, and what preserves it.
use Rattle.std.proofs.Common.{◌≡◌, ℕ, true, false, not, ◌&&◌, ◌==◌, List, [], ◌∷◌, arith}
use Rattle.std.specs.List.{AllByRecursion as Each}
use Rattle.std.proofs.lemmas.Bool.Decides.{nat_tests}
use Rattle.ctt_problem.specs.Lists.{Pairwise}
use Rattle.ctt_problem.specs.Timetable.{before, Ascending, with, without}
use Rattle.ctt_problem.specs.declared.placed.Placed.{Placed}
use Rattle.ctt_problem.proofs.LectureLaws.{before_once}
use Rattle.ctt_rules.proofs.ListLemmas.{Pairwise-map, Pairwise-filter}
use Rattle.ctt_board.proofs.PutLemmas.{Pairwise-put}

pub before_goes : (a b c : Placed) → before a b ≡ true → before c b ≡ false → before a c ≡ true
before_goes a b c h k = grind (arith, nat_tests)

-- in order, with lectures of one course and slot allowed
abbrev pub InOrder : List Placed → Type 0
InOrder t = Pairwise (λ a b. before b a ≡ false) t

pub in_order : (t : List Placed) → Ascending t → InOrder t
in_order t h = Pairwise-map (λ a b. before a b ≡ true) (λ a b. before b a ≡ false) before_once t h

pub InOrder-with : (l : Placed) (t : List Placed) → InOrder t → InOrder (with l t)
InOrder-with l t h = Pairwise-put (λ a b. before b a ≡ false) before l t far (each_up t) (each_down t) h
  where
    far : (y z : Placed) → before l y ≡ true → before z y ≡ false → before z l ≡ false
    far y z h k = grind (arith, nat_tests)

    each_up : (xs : List Placed) → Each (λ y. before l y ≡ true → before y l ≡ false) xs
    each_up [] = tt
    each_up (x ∷ xs) = (before_once l x, each_up xs)

    each_down : (xs : List Placed) → Each (λ y. before l y ≡ false → before l y ≡ false) xs
    each_down [] = tt
    each_down (x ∷ xs) = ((λ e. e), each_down xs)

pub InOrder-without : (c s : ℕ) (t : List Placed) → InOrder t → InOrder (without c s t)
InOrder-without c s t h = Pairwise-filter (λ a b. before b a ≡ false) (λ l. not (l.course == c && l.slot == s)) t h
