use Rattle.std.proofs.Common.{rules, ◌≡◌, ◌∙◌, List, Some, sym, ap, subst, pos, ◌-ℤ◌}
use Rattle.ctt_problem.specs.Problem.{Problem}
use Rattle.ctt_problem.specs.Timetable.{Fits, with, without}
use Rattle.ctt_problem.specs.declared.placed.Placed.{Placed}
use Rattle.ctt_rules.specs.Hard.{Lawful}
use Rattle.ctt_rules.specs.Penalty.{penalty, total}
use Rattle.ctt_board.specs.Changes.{CellFits, room_at, room_by, apply, apply_at}
use Rattle.ctt_grid.specs.Seen.{Sees}
use Rattle.ctt_board.proofs.MoreLemmas.{more_with, more_without}
use Rattle.ctt_board.proofs.RoomLemmas.{rooms_after}
use Rattle.ctt_board.proofs.BetweenLemmas.{there_fits, comes_fits}
use Rattle.ctt_grid.proofs.WayLemmas.{left_there}
use Rattle.ctt_board.proofs.LawfulLemmas.{without_lawful}
use Rattle.ctt_grid.proofs.CompactnessLemmas.{none_yet, one_seen}
use Rattle.ctt_grid.proofs.SeenLemmas.{sees_added, sees_removed}
use Rattle.ctt_grid.proofs.GainLemmas.{gained, small, same_back, turned_fits, turned_is}
use Rattle.ctt_grid.proofs.grid_sheet.step.Goals as goal

pub unwrap-room-requires : goal.unwrap-room-requires
unwrap-room-requires c =
    let x = c.args.cell.now in
    let t : List Placed = apply c.args.done.now c.args.sheet.now.list in
    let last : c.last_room.result ≡ room_at x.course x.slot t = c.last_room.ensures ∙ ap (room_by c.args.done.now x.course x.slot) c.room_at-before.ensures ∙ sym (rooms_after c.args.done.now c.args.sheet.now.list c.requires.done x.course x.slot) in
    rw last (subst (CellFits t x.course x.slot) c.in-None.is c.requires.ready.fits)

pub remove-requires-clause-fits : goal.remove-requires-clause-fits
remove-requires-clause-fits c =
    let x = c.args.cell.now in
    let some : c.last_room.result ≡ Some c.unwrap-room.result = search rules in
    there_fits c.args.instance.now x.course x.slot c.unwrap-room.result (apply c.args.done.now c.args.sheet.now.list) c.requires.lawful
    (left_there c.args.done.now c.args.sheet.now.list x.course x.slot c.unwrap-room.result c.room_at-before.result c.last_room.result c.last_room.ensures c.room_at-before.ensures c.requires.done some)

pub remove-requires-clause-own : goal.remove-requires-clause-own
remove-requires-clause-own c =
    let x = c.args.cell.now in
    one_seen c.args.instance.now (record { course = x.course; slot = x.slot; room = c.unwrap-room.result }) (apply c.args.done.now c.args.sheet.now.list) c.args.counts.now c.requires.lawful c.requires.sees

module _ (c : goal.After-remove) where
  abbrev i : Problem
  i = c.args.instance.now

  abbrev t : List Placed
  t = apply c.args.done.now c.args.sheet.now.list

  abbrev l : Placed
  l = record { course = c.args.cell.now.course; slot = c.args.cell.now.slot; room = c.unwrap-room.result }

  there : room_at l.course l.slot t ≡ Some l.room
  there =
      let some : c.last_room.result ≡ Some c.unwrap-room.result = search rules in
      left_there c.args.done.now c.args.sheet.now.list l.course l.slot l.room c.room_at-before.result c.last_room.result c.last_room.ensures c.room_at-before.ensures c.requires.done some

  fits : Fits i l
  fits = there_fits i l.course l.slot l.room t c.requires.lawful there

  abbrev u : List Placed
  u = without c.args.cell.now.course c.args.cell.now.slot t

  lawful : Lawful i u
  lawful = without_lawful i t c.args.cell.now.course c.args.cell.now.slot c.requires.lawful

  sees : Sees i c.remove.new.self u
  sees =
      let more = more_without l.course l.slot l.room t c.requires.lawful.timetable.ascending there in
      sees_removed i l t u c.args.counts.now c.remove.new.self more c.requires.sees c.remove.ensures.base c.remove.ensures.added c.remove.ensures.removed

  value : c.remove.result ≡ pos (total (penalty i t)) -ℤ pos (total (penalty i u))
  value =
      let more = more_without l.course l.slot l.room t c.requires.lawful.timetable.ascending there in
      gained i l u t c.remove.new.self c.remove.result more fits lawful c.requires.lawful sees c.remove.ensures.gain

pub overflow_sub-result : goal.overflow_sub-result
overflow_sub-result c = turned_fits c.remove.result (total (penalty (i c) (t c))) (total (penalty (i c) (u c))) (value c) (small (i c) (t c) c.limits_hold.ensures c.requires.lawful) (small (i c) (u c) c.limits_hold.ensures (lawful c))

pub returns-in-None-clause-sees : goal.returns-in-None-clause-sees
returns-in-None-clause-sees c = rw c.in-None.is (sees c)

pub returns-in-None-clause-value : goal.returns-in-None-clause-value
returns-in-None-clause-value c = rw c.in-None.is (turned_is c.remove.result (total (penalty (i c) (t c))) (total (penalty (i c) (u c))) (value c) (small (i c) (t c) c.limits_hold.ensures c.requires.lawful) (small (i c) (u c) c.limits_hold.ensures (lawful c)))

pub add-requires-clause-fits : goal.add-requires-clause-fits
add-requires-clause-fits c =
    let x = c.args.cell.now in
    let t : List Placed = apply c.args.done.now c.args.sheet.now.list in
    comes_fits c.args.instance.now (record { course = x.course; slot = x.slot; room = c.in-Some.room }) t (subst (λ o. Lawful c.args.instance.now (apply_at x.course x.slot o t)) c.in-Some.is c.requires.ready.lawful)

pub add-requires-clause-own : goal.add-requires-clause-own
add-requires-clause-own c =
    let x = c.args.cell.now in
    let t : List Placed = apply c.args.done.now c.args.sheet.now.list in
    let l : Placed = record { course = x.course; slot = x.slot; room = c.in-Some.room } in
    none_yet c.args.instance.now l t (with l t) c.args.counts.now (more_with l t) c.requires.lawful (subst (λ o. Lawful c.args.instance.now (apply_at x.course x.slot o t)) c.in-Some.is c.requires.ready.lawful) c.requires.sees

module _ (c : goal.After-add) where
  abbrev j : Problem
  j = c.args.instance.now

  abbrev before : List Placed
  before = apply c.args.done.now c.args.sheet.now.list

  abbrev m : Placed
  m = record { course = c.args.cell.now.course; slot = c.args.cell.now.slot; room = c.in-Some.room }

  after_lawful : Lawful j (with m before)
  after_lawful = subst (λ o. Lawful j (apply_at m.course m.slot o before)) c.in-Some.is c.requires.ready.lawful

  m_fits : Fits j m
  m_fits = comes_fits j m before after_lawful

  added_sees : Sees j c.add.new.self (with m before)
  added_sees = sees_added j m before (with m before) c.args.counts.now c.add.new.self (more_with m before) c.requires.sees c.add.ensures.base c.add.ensures.removed c.add.ensures.added

pub returns-in-Some-clause-sees : goal.returns-in-Some-clause-sees
returns-in-Some-clause-sees c = rw c.in-Some.is (added_sees c)

pub returns-in-Some-clause-value : goal.returns-in-Some-clause-value
returns-in-Some-clause-value c =
    let value = gained (j c) (m c) (before c) (with (m c) (before c)) c.args.counts.now c.add.result (more_with (m c) (before c)) (m_fits c) c.requires.lawful (after_lawful c) c.requires.sees c.add.ensures.gain in
    rw c.in-Some.is (same_back c.add.result (total (penalty (j c) (with (m c) (before c)))) (total (penalty (j c) (before c))) value (small (j c) (with (m c) (before c)) c.limits_hold.ensures (after_lawful c)) (small (j c) (before c) c.limits_hold.ensures c.requires.lawful))
