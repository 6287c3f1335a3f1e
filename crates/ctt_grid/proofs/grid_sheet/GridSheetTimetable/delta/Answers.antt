use Rattle.std.proofs.Common.{rules, ◌≡◌, ◌≤◌, ◌∙◌, ◌+◌, List, take, add-one, sym, ap, ap₂, subst, pos, ◌-ℤ◌, to_z, w64, arith, take_all}
use Rattle.ctt_problem.specs.Problem.{Problem}
use Rattle.ctt_problem.specs.declared.placed.Placed.{Placed}
use Rattle.ctt_rules.specs.Hard.{Lawful}
use Rattle.ctt_rules.specs.Penalty.{penalty, total}
use Rattle.ctt_board.specs.Boards.{Board}
use Rattle.ctt_board.specs.Changes.{apply, apply_at}
use Rattle.ctt_board.specs.declared.cell.Cell.{Cell}
use Rattle.ctt_grid.proofs.WayLemmas.{OnTheWay, way_of}
use Rattle.ctt_grid.proofs.GainLemmas.{small, sum_fits, sum_is}
use Rattle.ctt_grid.proofs.grid_sheet.GridSheetTimetable.delta.Goals as goal

pub step-total-requires-clause-done : goal.step-total-requires-clause-done
step-total-requires-clause-done c = (way_of c.self.inside.instance.now c.args.self.now.problem c.cells-cells.result.now c.args.change.now c.args.self.now.list c.loop-number.number c.index-cells-number.result (ap (λ (b : Board). b.problem) c.self.view_is) c.cells-cells.ensures.value c.cells-cells.ensures.in_turn c.lawful.ensures c.requires c.loop-number-test.true c.index-cells-number.is).done

pub step-total-requires-clause-lawful : goal.step-total-requires-clause-lawful
step-total-requires-clause-lawful c = (way_of c.self.inside.instance.now c.args.self.now.problem c.cells-cells.result.now c.args.change.now c.args.self.now.list c.loop-number.number c.index-cells-number.result (ap (λ (b : Board). b.problem) c.self.view_is) c.cells-cells.ensures.value c.cells-cells.ensures.in_turn c.lawful.ensures c.requires c.loop-number-test.true c.index-cells-number.is).now

pub step-total-requires-clause-ready : goal.step-total-requires-clause-ready
step-total-requires-clause-ready c = (way_of c.self.inside.instance.now c.args.self.now.problem c.cells-cells.result.now c.args.change.now c.args.self.now.list c.loop-number.number c.index-cells-number.result (ap (λ (b : Board). b.problem) c.self.view_is) c.cells-cells.ensures.value c.cells-cells.ensures.in_turn c.lawful.ensures c.requires c.loop-number-test.true c.index-cells-number.is).ready

module _ (c : goal.After-step-total) where
  abbrev i : Problem
  i = c.self.inside.instance.now

  abbrev x : Cell
  x = c.index-cells-number.result

  abbrev t : List Placed
  t = apply (take c.loop-number.number c.cells-cells.result.now) c.args.self.now.list

  way : OnTheWay i c.cells-cells.result.now c.args.self.now.list c.loop-number.number x
  way = way_of i c.args.self.now.problem c.cells-cells.result.now c.args.change.now c.args.self.now.list c.loop-number.number x (ap (λ (b : Board). b.problem) c.self.view_is) c.cells-cells.ensures.value c.cells-cells.ensures.in_turn c.lawful.ensures c.requires c.loop-number-test.true c.index-cells-number.is

  first_small : total (penalty i c.args.self.now.list) ≤ 7000000000000000
  first_small = small i c.args.self.now.list c.limits_hold.ensures (subst (λ p. Lawful p c.args.self.now.list) (sym (ap (λ (b : Board). b.problem) c.self.view_is)) c.lawful.ensures)

pub overflow_add-total : goal.overflow_add-total
overflow_add-total c =
    sum_fits (to_z w64 c.loop-number.total-bits) c.step-total.result (total (penalty (i c) (t c))) (total (penalty (i c) (apply_at (x c).course (x c).slot (x c).room (t c)))) (total (penalty (i c) c.args.self.now.list))
    c.loop-number.invariant.so_far c.step-total.ensures.value (small (i c) (t c) c.limits_hold.ensures (way c).now) (small (i c) (apply_at (x c).course (x c).slot (x c).room (t c)) c.limits_hold.ensures (way c).ready.lawful) (first_small c)

pub loop-number-preserved : goal.loop-number-preserved
loop-number-preserved c =
    let next : apply (take (c.loop-number.number + 1) c.cells-cells.result.now) c.args.self.now.list ≡ apply_at (x c).course (x c).slot (x c).room (t c) = ap (λ n. apply (take n c.cells-cells.result.now) c.args.self.now.list) (add-one c.loop-number.number) ∙ (way c).next in
    rw next (record {
      sees = c.step-total.ensures.sees;
      room = search rules;
      so_far = sum_is (to_z w64 c.loop-number.total-bits) c.step-total.result (total (penalty (i c) (t c))) (total (penalty (i c) (apply_at (x c).course (x c).slot (x c).room (t c)))) (total (penalty (i c) c.args.self.now.list))
          c.loop-number.invariant.so_far c.step-total.ensures.value (small (i c) (t c) c.limits_hold.ensures (way c).now) (small (i c) (apply_at (x c).course (x c).slot (x c).room (t c)) c.limits_hold.ensures (way c).ready.lawful) (first_small c);
    })

pub returns : goal.returns
returns c =
    let all : take c.loop-number.number c.cells-cells.result.now ≡ c.args.change.now = take_all c.loop-number.number c.cells-cells.result.now (omega (arith, c.loop-number-test.false)) ∙ c.cells-cells.ensures.value in
    c.loop-number.invariant.so_far
    ∙ ap₂ (λ p cells. pos (total (penalty p (apply cells c.args.self.now.list))) -ℤ pos (total (penalty p c.args.self.now.list))) (ap (λ (b : Board). b.problem) c.self.view_is) all
