use Rattle.std.proofs.Common.{subst, ◌≡◌, ◌∙◌, [], arith}
use Rattle.ctt_problem.specs.Problem.{course_count, slot_count}
use Rattle.ctt_grid.specs.Tables.{at}
use Rattle.ctt_grid.specs.Grids.{timetable_in, AreRooms, AreHolders, AreInSlots, AreTables}
use Rattle.ctt_grid.proofs.CoursesInSlotLemmas.{none_in_slots}
use Rattle.ctt_grid.proofs.HolderLemmas.{no_holders}
use Rattle.ctt_grid.proofs.GridLemmas.{made, none_lawful, no_rooms}
use Rattle.ctt_grid.proofs.tables.Tables.new.Goals.{In_ok-new-4}
use Rattle.ctt_grid.proofs.tables.Tables.new.Goals as goal

module _ (c : In_ok-new-4) where
  rooms_none : AreRooms c.args.instance.now [] c.in_ok-new.field-0
  rooms_none =
      let i = c.args.instance.now in
      let courses : c.courses-courses.result ≡ course_count i = c.courses-courses.ensures.exact in
      let slots : c.slots-slots.result ≡ slot_count i = c.slots-slots.ensures.exact in
      let g = c.in_ok-new.ensures in
      no_rooms i c.in_ok-new.field-0 (g.rows.0 ∙ courses, g.rows.1 ∙ slots) (λ k s lk ls. subst (λ v. at c.in_ok-new.field-0 k s v ≡ v) c.none-none.ensures (g.cells k s (omega (arith, lk, courses)) (omega (arith, ls, slots))))

  courses_none : AreHolders c.args.instance.now [] c.in_ok-new-2.field-0
  courses_none =
      let i = c.args.instance.now in
      let slots : c.slots-slots.result ≡ slot_count i = c.slots-slots.ensures.exact in
      let g = c.in_ok-new-2.ensures in
      no_holders i c.in_ok-new-2.field-0 (g.rows.0 ∙ slots, g.rows.1 ∙ c.rooms.ensures.exact) (λ s r ls lr. subst (λ v. at c.in_ok-new-2.field-0 s r v ≡ v) c.none-none.ensures (g.cells s r (omega (arith, ls, slots)) (omega (arith, lr, c.rooms.ensures.exact))))

  in_slots_none : AreInSlots c.args.instance.now [] c.in_ok-new-3.field-0
  in_slots_none =
      let courses : c.courses-courses.result ≡ course_count c.args.instance.now = c.courses-courses.ensures.exact in
      let slots : c.slots-slots.result ≡ slot_count c.args.instance.now = c.slots-slots.ensures.exact in
      let g = c.in_ok-new-3.ensures in
      none_in_slots c.args.instance.now c.in_ok-new-3.field-0 (g.size.0 ∙ slots, g.size.1 ∙ courses) g.marks

  whole : AreTables c.args.instance.now (record { rooms = c.in_ok-new.field-0; courses = c.in_ok-new-2.field-0; courses_in_slot = c.in_ok-new-3.field-0; counts = c.in_ok-new-4.field-0 }) × (timetable_in c.args.instance.now c.in_ok-new.field-0 ≡ [])
  whole = made c.args.instance.now [] _ (none_lawful c.args.instance.now) rooms_none courses_none in_slots_none c.in_ok-new-4.ensures

pub returns-clause-tables : goal.returns-clause-tables
returns-clause-tables c = (whole c).0

pub returns-clause-list : goal.returns-clause-list
returns-clause-list c = (whole c).1
