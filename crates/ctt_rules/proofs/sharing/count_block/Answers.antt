use Rattle.std.proofs.Common.{◌≡◌, ◌+◌, ◌-◌, ◌==◌, ◌&&◌, ◌∙◌, ℕ, cond, leb, ltb, [], ap, arith}
use Rattle.std.proofs.lemmas.List.{take_all}
use Rattle.ctt_problem.specs.Marks.{count_marked}
use Rattle.ctt_problem.specs.Timetable.{Fits}
use Rattle.ctt_problem.proofs.TimetableLemmas.{Each-at}
use Rattle.ctt_rules.specs.Earlier.{clashes_with, in_row, new_conflicts, only_in, room_taken, tally}
use Rattle.ctt_rules.proofs.TimetableLemmas.{few_lectures}
use Rattle.ctt_rules.proofs.ConflictLemmas.{met_more, conflicts_more, rooms_more, few_marked, cond_few, one_few}
use Rattle.ctt_rules.proofs.sharing.count_block.Goals as goal

pub meet-requires-clause-fits : goal.meet-requires-clause-fits
meet-requires-clause-fits c = rw (← c.lecture-item.is) at (Each-at (Fits c.args.instance.now) c.args.timetable.now c.requires.fits c.loop-lecture.lecture-index c.lecture-item.result c.loop-lecture-test.true)

pub meet-requires-clause-small : goal.meet-requires-clause-small
meet-requires-clause-small c = omega (arith, c.loop-lecture.invariant.small, few_lectures c.args.instance.now c.args.timetable.now c.requires c.limits_hold.ensures)

pub loop-lecture-preserved : goal.loop-lecture-preserved
loop-lecture-preserved c =
    let i = c.args.instance.now in
    let t = c.args.timetable.now in
    let first = c.args.first in
    let k = c.loop-lecture.lecture-index in
    let x = c.lecture-item.result in
    let old = c.loop-lecture.block in
    let new = c.meet.new.self in
    let inv = c.loop-lecture.invariant in
    let few = c.limits_hold.ensures.courses_few in
    let clashing : ℕ = count_marked (λ n. in_row old.courses (x.slot - first) n && clashes_with i x.course n) in
    let here : new.sharing.conflicts ≡ old.sharing.conflicts + cond (leb first x.slot && ltb x.slot (first + 64)) clashing 0 = rw inv.first at c.meet.ensures.conflicts in
    let taken : new.sharing.occupancy ≡ old.sharing.occupancy + cond (leb first x.slot && ltb x.slot (first + 64)) (cond (in_row old.rooms (x.slot - first) x.room) 1 0) 0 = rw inv.first at c.meet.ensures.occupancy in
    record {
      first = c.meet.ensures.first ∙ inv.first;
      courses = met_more i t c.requires few first k x c.loop-lecture-test.true c.lecture-item.is (λ r n y. y.slot == first + r && y.course == n) (in_row old.courses) (in_row new.courses) inv.courses (λ r n lt. rw inv.first at (c.meet.ensures.courses r n lt));
      rooms = met_more i t c.requires few first k x c.loop-lecture-test.true c.lecture-item.is (λ r n y. y.slot == first + r && y.room == n) (in_row old.rooms) (in_row new.rooms) inv.rooms (λ r n lt. rw inv.first at (c.meet.ensures.rooms r n lt));
      conflicts = omega (arith, here, inv.conflicts, conflicts_more i t c.requires few first k x c.loop-lecture-test.true c.lecture-item.is old.courses inv.courses);
      occupancy = omega (arith, taken, inv.occupancy, rooms_more i t c.requires few first k x c.loop-lecture-test.true c.lecture-item.is old.rooms inv.rooms);
      small = omega (arith, here, inv.small, cond_few (leb first x.slot && ltb x.slot (first + 64)) clashing 2000 (few_marked (λ n. in_row old.courses (x.slot - first) n && clashes_with i x.course n)));
      few = omega (arith, taken, inv.few, cond_few (leb first x.slot && ltb x.slot (first + 64)) (cond (in_row old.rooms (x.slot - first) x.room) 1 0) 1 (one_few (in_row old.rooms (x.slot - first) x.room)));
    }

pub returns-clause-conflicts : goal.returns-clause-conflicts
returns-clause-conflicts c = c.loop-lecture.invariant.conflicts ∙ ap (tally (only_in c.args.first (c.args.first + 64) (new_conflicts c.args.instance.now)) []) (take_all c.loop-lecture.lecture-index c.args.timetable.now (omega arith))

pub returns-clause-occupancy : goal.returns-clause-occupancy
returns-clause-occupancy c = c.loop-lecture.invariant.occupancy ∙ ap (tally (only_in c.args.first (c.args.first + 64) room_taken) []) (take_all c.loop-lecture.lecture-index c.args.timetable.now (omega arith))

pub returns-clause-small : goal.returns-clause-small
returns-clause-small c = omega (arith, few_lectures c.args.instance.now c.args.timetable.now c.requires c.limits_hold.ensures)

pub returns-clause-few : goal.returns-clause-few
returns-clause-few c = omega (arith, few_lectures c.args.instance.now c.args.timetable.now c.requires c.limits_hold.ensures)
