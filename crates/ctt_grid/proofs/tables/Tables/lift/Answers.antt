use Rattle.std.proofs.Common.{rules, ◌≡◌, ◌==◌, ◌&&◌, cond, None, is_some, ◌∙◌, ap, ap₂, subst₂, arith, false}
use Rattle.ctt_grid.specs.Tables.{at}
use Rattle.ctt_problem.specs.BitRows.{SetsMark}
use Rattle.ctt_grid.proofs.CoursesInSlotLemmas.{in_slots_after_cell}
use Rattle.ctt_grid.proofs.GridLemmas.{WroteRoom, without_rooms}
use Rattle.ctt_grid.proofs.HolderLemmas.{WroteCourse, holders_without}
use Rattle.ctt_grid.proofs.tables.Tables.lift.Goals as goal

pub returns-clause-places : goal.returns-clause-places
returns-clause-places c = λ t are there lawful.
    let i = c.args.instance.now in
    let l = c.args.lecture.now in
    let g = c.args.self.now in
    let course : c.get-course.result ≡ l.course = search rules in
    let slot : c.get-slot.result ≡ l.slot = search rules in
    let room : c.get-room.result ≡ l.room = search rules in
    let wrote : WroteRoom i g.rooms c.set.new.self l.course l.slot None =
    λ d e lt. c.set.ensures.cells d e None (omega (arith, lt, c.requires.sizes.rooms.1)) ∙ ap (λ v. cond (d == c.get-course.result && e == c.get-slot.result) v (at g.rooms d e None)) c.none-none.ensures ∙ ap₂ (λ a b. cond (d == a && e == b) None (at g.rooms d e None)) course slot in
    let wrote' : WroteCourse i g.courses c.set-2.new.self l.slot l.room None =
    λ d e lt. c.set-2.ensures.cells d e None (omega (arith, lt, c.requires.sizes.courses.1)) ∙ ap (λ v. cond (d == c.get-slot.result && e == c.get-room.result) v (at g.courses d e None)) c.none-none.ensures ∙ ap₂ (λ a b. cond (d == a && e == b) None (at g.courses d e None)) slot room in
    record {
      rooms_are = without_rooms i t g.rooms c.set.new.self l.course l.slot l.room are.rooms_are c.set.ensures.rows c.set.ensures.width wrote there;
      courses_are = holders_without i l t g.courses c.set-2.new.self are.courses_are c.set-2.ensures.rows c.set-2.ensures.width wrote' lawful there;
      courses_in_slot_are = in_slots_after_cell i t g.courses_in_slot c.unmark.new.self l.course l.slot None are.courses_in_slot_are (subst₂ (λ s k. SetsMark g.courses_in_slot c.unmark.new.self s k false) slot course c.unmark.ensures) (ap is_some there);
    }
