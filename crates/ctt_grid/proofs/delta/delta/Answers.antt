use Rattle.std.proofs.Common.{◌≡◌, ◌+◌, ◌*◌, ◌≤◌, ◌∙◌, ℕ, List, pos, ◌-ℤ◌, to_z, of_z, w64, sym, ap, ap₂, arith}
use Rattle.std.proofs.lemmas.Int.{ints}
use Rattle.ctt_problem.specs.Problem.{Problem}
use Rattle.ctt_problem.specs.declared.placed.Placed.{Placed}
use Rattle.ctt_rules.specs.Penalty.{penalty, total}
use Rattle.ctt_board.specs.Changes.{apply}
use Rattle.ctt_board.specs.Costs.{courses_cost, curricula_cost}
use Rattle.ctt_board.specs.declared.cell.Cell.{Cell}
use Rattle.ctt_grid.proofs.CostLemmas.{touched_difference}
use Rattle.ctt_grid.proofs.delta.delta.Goals as goal

-- a difference of small numbers, by another that is the same
difference : (a b x y : ℕ) → a + y ≡ b + x → a ≤ 2000 * 3000000000000 + 20000 * 8000000 → b ≤ 2000 * 3000000000000 + 20000 * 8000000 → to_z w64 (of_z w64 (to_z w64 a -ℤ to_z w64 b)) ≡ pos x -ℤ pos y
difference a b x y e small small2 = omega (arith, ints)

abbrev touched : Problem → List Cell → List Placed → ℕ
touched i cells t = courses_cost i cells t + curricula_cost i cells t

pub returns : goal.returns
returns g c =
    let i : Problem = c.args.instance.now in
    let t : List Placed = g.R.Rooms.list c.args.rooms.now in
    let cells : List Cell = c.args.change.now in
    let same = c.cells-cells.ensures.value in
    let after : c.touched_cost.result ≡ touched i cells (apply cells t) = c.touched_cost.ensures.value ∙ ap₂ (λ p ls. touched p c.cells-cells.result.now ls) c.new-after.ensures.problem c.new-after.ensures.list ∙ ap (λ x. touched i x (apply x t)) same in
    let before : c.touched_cost-2.result ≡ touched i cells t = c.touched_cost-2.ensures.value ∙ ap₂ (λ p ls. touched p c.cells-cells.result.now ls) c.new-before.ensures.problem c.new-before.ensures.list ∙ ap (λ x. touched i x t) same in
    let moved : c.touched_cost.result + total (penalty i t) ≡ c.touched_cost-2.result + total (penalty i (apply cells t)) =
    ap (λ n. n + total (penalty i t)) after ∙ touched_difference i cells t c.requires.lawful.timetable c.requires.fits.lawful.timetable ∙ ap (λ n. n + total (penalty i (apply cells t))) (sym before) in
    difference c.touched_cost.result c.touched_cost-2.result (total (penalty i (apply cells t))) (total (penalty i t)) moved c.touched_cost.ensures.bound c.touched_cost-2.ensures.bound
