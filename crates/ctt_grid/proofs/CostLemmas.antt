-- What a change does to the penalty, and a bound of the penalty.
use Rattle.std.proofs.Common.{◌≡◌, ◌+◌, List, arith}
use Rattle.ctt_problem.specs.Problem.{Problem}
use Rattle.ctt_problem.specs.Timetable.{IsTimetable}
use Rattle.ctt_problem.specs.declared.placed.Placed.{Placed}
use Rattle.ctt_rules.specs.Penalty.{penalty, total}
use Rattle.ctt_rules.proofs.TimetableLemmas.{courses_fit}
use Rattle.ctt_board.specs.Changes.{apply}
use Rattle.ctt_board.specs.Costs.{courses_cost, curricula_cost}
use Rattle.ctt_grid.specs.BoundLaws.{PenaltyFits}
use Rattle.ctt_board.specs.declared.cell.Cell.{Cell}
use Rattle.ctt_board.proofs.CostLemmas.{difference_of, penalty_small}

pub touched_difference : (i : Problem) (cells : List Cell) (t : List Placed) → IsTimetable i t → IsTimetable i (apply cells t)
    → (courses_cost i cells (apply cells t) + curricula_cost i cells (apply cells t)) + total (penalty i t) ≡ (courses_cost i cells t + curricula_cost i cells t) + total (penalty i (apply cells t))
touched_difference i cells t h k = difference_of i cells t (courses_fit i t h) (courses_fit i (apply cells t) k)

pub penalty_fits : PenaltyFits
penalty_fits i t p h = omega (arith, penalty_small i p t h)
