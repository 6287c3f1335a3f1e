-- What a cell adds to the penalty, as a signed number.
use Rattle.std.proofs.Common.{◌≡◌, ℕ, ◌≤◌, List, ℤ, pos, ◌-ℤ◌, ◌+ℤ◌, w64, FitsSigned, to_z, of_z, ◌∙◌, ap, arith}
use Rattle.std.proofs.lemmas.Int.{ints}
use Rattle.ctt_problem.specs.Problem.{Problem, IsProblem}
use Rattle.ctt_problem.specs.Timetable.{Fits}
use Rattle.ctt_problem.specs.declared.placed.Placed.{Placed}
use Rattle.ctt_rules.specs.Hard.{Lawful}
use Rattle.ctt_rules.specs.Penalty.{penalty, total}
use Rattle.ctt_board.proofs.MoreLemmas.{IsMore}
use Rattle.ctt_grid.specs.CostDelta.{cost_delta, DiffersBy, gain_of}
use Rattle.ctt_grid.specs.Seen.{Sees, seen_delta}
use Rattle.ctt_grid.specs.declared.cost_delta.CostDelta.{CostDelta}
use Rattle.ctt_grid.specs.declared.counts_after.CountsAfter.{CountsAfter}
use Rattle.ctt_board.proofs.CostLemmas.{penalty_small}
use Rattle.ctt_grid.proofs.CostDeltaLemmas.{differs_by}
use Rattle.ctt_grid.proofs.SeenLemmas.{delta_is}

pub gain_is : (i : Problem) (t u : List Placed) (j : CostDelta) → DiffersBy i t u j → gain_of j ≡ pos (total (penalty i u)) -ℤ pos (total (penalty i t))
gain_is i t u j h = omega (arith, ints, h.capacity, h.days, h.compactness, h.stability)

pub small : (i : Problem) (t : List Placed) → IsProblem i → Lawful i t → total (penalty i t) ≤ 7000000000000000
small i t p h = omega (arith, penalty_small i p t h.timetable)

-- what is gained by a lecture that is seen to be added to t, or to have left t
pub gained : (i : Problem) (l : Placed) (t u : List Placed) (v : CountsAfter) (x : ℤ) → IsMore l t u → Fits i l → Lawful i t → Lawful i u → Sees i v t → x ≡ gain_of (seen_delta i v l) → x ≡ pos (total (penalty i u)) -ℤ pos (total (penalty i t))
gained i l t u v x more fits lt lu sees e = e ∙ ap gain_of (delta_is i v t sees l fits lt.timetable.fits) ∙ gain_is i t u (cost_delta i t l) (differs_by i l t u more fits lt.timetable.fits lu.timetable.fits)

pub same_back : (x : ℤ) (a b : ℕ) → x ≡ pos a -ℤ pos b → a ≤ 7000000000000000 → b ≤ 7000000000000000 → to_z w64 (of_z w64 x) ≡ pos a -ℤ pos b
same_back x a b e la lb = omega (arith, ints)

pub turned_fits : (x : ℤ) (a b : ℕ) → x ≡ pos a -ℤ pos b → a ≤ 7000000000000000 → b ≤ 7000000000000000 → FitsSigned w64 (pos 0 -ℤ to_z w64 (of_z w64 x))
turned_fits x a b e la lb = let same = same_back x a b e la lb in omega (arith, ints)

pub turned_is : (x : ℤ) (a b : ℕ) → x ≡ pos a -ℤ pos b → a ≤ 7000000000000000 → b ≤ 7000000000000000 → to_z w64 (of_z w64 (pos 0 -ℤ to_z w64 (of_z w64 x))) ≡ pos b -ℤ pos a
turned_is x a b e la lb = let same = same_back x a b e la lb in omega (arith, ints)

-- two differences in a row
pub sum_fits : (x y : ℤ) (a b d : ℕ) → x ≡ pos a -ℤ pos d → y ≡ pos b -ℤ pos a → a ≤ 7000000000000000 → b ≤ 7000000000000000 → d ≤ 7000000000000000 → FitsSigned w64 (x +ℤ to_z w64 (of_z w64 y))
sum_fits x y a b d e f la lb ld = let same = same_back y b a f lb la in omega (arith, ints)

pub sum_is : (x y : ℤ) (a b d : ℕ) → x ≡ pos a -ℤ pos d → y ≡ pos b -ℤ pos a → a ≤ 7000000000000000 → b ≤ 7000000000000000 → d ≤ 7000000000000000 → to_z w64 (of_z w64 (x +ℤ to_z w64 (of_z w64 y))) ≡ pos b -ℤ pos d
sum_is x y a b d e f la lb ld = let same = same_back y b a f lb la in omega (arith, ints)
