use Rattle.std.proofs.Common.{◌≡◌, ◌+◌, subst, length, leb, false, arith}
use Rattle.std.proofs.lemmas.Bool.{and_parts}
use Rattle.ctt_problem.specs.Timetable.{course_row}
use Rattle.ctt_rules.specs.Hard.{Lawful}
use Rattle.ctt_board.specs.Changes.{in_turn, apply}
use Rattle.ctt_board.proofs.AfterLemmas.{rows_after, few_in_row}
use Rattle.ctt_board.proofs.after.AfterRooms.count.Goals as goal

pub overflow_add-count : goal.overflow_add-count
overflow_add-count g c =
    let t = g.R.Rooms.list c.self.inside.rooms.now in
    let lawful : Lawful c.self.inside.instance.now t = subst (λ p. Lawful p t) c.self.invariant.same c.lawful.ensures in
    omega (arith, few_in_row c.self.inside.instance.now t c.args.course c.limits_hold.ensures lawful, c.count.ensures, c.count_added.ensures.bound)

module _ (g : _) (c : goal.After-count_removed g) where
  balance : length (course_row c.args.course (apply c.self.inside.cells.now (g.R.Rooms.list c.self.inside.rooms.now))) + c.count_removed.result ≡ c.count.result + c.count_added.result
  balance =
      let cells = c.self.inside.cells.now in
      let t = g.R.Rooms.list c.self.inside.rooms.now in
      let i = c.self.inside.instance.now in
      let lawful : Lawful i t = subst (λ p. Lawful p t) c.self.invariant.same c.lawful.ensures in
      let turn = (and_parts (leb (length cells) 4) (in_turn false cells) c.self.invariant.change).1 in
      omega (arith, rows_after i cells t c.args.course lawful turn c.self.invariant.fit c.self.invariant.lawful, c.count.ensures, c.count_added.ensures.value, c.count_removed.ensures.value)

pub overflow_sub-result : goal.overflow_sub-result
overflow_sub-result g c = omega (arith, balance g c)

pub returns : goal.returns
returns g c = rw (← c.self.view_is) (omega (arith, balance g c))
