use Rattle.std.proofs.Common.{rules, ◌≡◌, ◌<◌, ◌∙◌, sym, ap, true, Option, Some, None, is_some, List, refl, arith}
use Rattle.std.proofs.lemmas.Bool.Decides.{nat_tests}
use Rattle.ctt_problem.specs.Problem.{Problem, course_count, is_barred}
use Rattle.ctt_problem.specs.Timetable.{Fits}
use Rattle.ctt_problem.specs.declared.placed.Placed.{Placed}
use Rattle.ctt_board.specs.Changes.{room_at}
use Rattle.ctt_edits.specs.Edits.{or_else, fault_if, fault_in_place_of}
use Rattle.ctt_edits.specs.declared.fault.EditFault.{EditFault}
use Rattle.ctt_edits.specs.declared.fault.EditFault.TheVariants.{Barred}
use Rattle.ctt_edits.proofs.FaultLemmas.{no_fault}
use Rattle.ctt_edits.proofs.SwapLemmas.{by_slots, within}
use Rattle.ctt_edits.proofs.checking.exchange_fault.Goals as goal

some_first : (f g : Option EditFault) → is_some f ≡ true → or_else f g ≡ f
some_first (Some f) g h = refl
some_first None g h = cc

-- in one slot
pub returns-then-is_some : goal.returns-then-is_some
returns-then-is_some g c =
    let i : Problem = g.S.Rooms.problem c.args.sheet.now in
    let t : List Placed = g.S.Rooms.list c.args.sheet.now in
    let l : Placed = c.args.lecture.now in
    let o : Placed = c.args.other.now in
    let told : c.barred_fault-fault.result ≡ fault_if (is_barred i l.course o.room) Barred = rw c.instance.ensures at c.barred_fault-fault.ensures in
    let is_first : is_some (fault_if (is_barred i l.course o.room) Barred) ≡ true = sym (ap is_some told) ∙ sym c.is_some.ensures ∙ c.if-is_some.true in
    told ∙ sym (some_first (fault_if (is_barred i l.course o.room) Barred) (fault_if (is_barred i o.course l.room) Barred) is_first)
    ∙ sym (within i t l.course l.slot l.room o.course o.slot o.room c.lawful.ensures c.requires.there c.requires.other_there c.requires.apart (grind (arith, nat_tests, c.eq.ensures, c.if-eq.true)))

pub returns-then-eq : goal.returns-then-eq
returns-then-eq g c =
    let i : Problem = g.S.Rooms.problem c.args.sheet.now in
    let t : List Placed = g.S.Rooms.list c.args.sheet.now in
    let l : Placed = c.args.lecture.now in
    let o : Placed = c.args.other.now in
    let told : c.barred_fault-fault.result ≡ fault_if (is_barred i l.course o.room) Barred = rw c.instance.ensures at c.barred_fault-fault.ensures in
    let second : c.barred_fault.result ≡ fault_if (is_barred i o.course l.room) Barred = rw c.instance-then-eq.ensures at c.barred_fault.ensures in
    let none : fault_if (is_barred i l.course o.room) Barred ≡ None = sym told ∙ no_fault c.barred_fault-fault.result (sym c.is_some.ensures ∙ c.if-is_some.false) in
    second ∙ sym (ap (λ f. or_else f (fault_if (is_barred i o.course l.room) Barred)) none)
    ∙ sym (within i t l.course l.slot l.room o.course o.slot o.room c.lawful.ensures c.requires.there c.requires.other_there c.requires.apart (grind (arith, nat_tests, c.eq.ensures, c.if-eq.true)))

-- in two slots
pub returns-then-is_some-2 : goal.returns-then-is_some-2
returns-then-is_some-2 g c =
    let i : Problem = g.S.Rooms.problem c.args.sheet.now in
    let t : List Placed = g.S.Rooms.list c.args.sheet.now in
    let l : Placed = c.args.lecture.now in
    let o : Placed = c.args.other.now in
    let first : Option EditFault = fault_in_place_of i t l.course o in
    let second : Option EditFault = fault_in_place_of i t o.course l in
    let is_first : is_some first ≡ true = sym (ap is_some c.fault_in_place_of-fault.ensures) ∙ sym c.is_some-2.ensures ∙ c.if-is_some-2.true in
    c.fault_in_place_of-fault.ensures ∙ sym (some_first first second is_first)
    ∙ sym (by_slots i t l.course l.slot l.room o.course o.slot o.room c.lawful.ensures c.requires.there c.requires.other_there c.requires.apart (sym c.eq.ensures ∙ c.if-eq.false))

pub returns : goal.returns
returns g c =
    let i : Problem = g.S.Rooms.problem c.args.sheet.now in
    let t : List Placed = g.S.Rooms.list c.args.sheet.now in
    let l : Placed = c.args.lecture.now in
    let o : Placed = c.args.other.now in
    let second : Option EditFault = fault_in_place_of i t o.course l in
    let none : fault_in_place_of i t l.course o ≡ None = sym c.fault_in_place_of-fault.ensures ∙ no_fault c.fault_in_place_of-fault.result (sym c.is_some-2.ensures ∙ c.if-is_some-2.false) in
    c.fault_in_place_of.ensures ∙ sym (ap (λ f. or_else f second) none)
    ∙ sym (by_slots i t l.course l.slot l.room o.course o.slot o.room c.lawful.ensures c.requires.there c.requires.other_there c.requires.apart (sym c.eq.ensures ∙ c.if-eq.false))

pub fault_in_place_of-fault-requires : goal.fault_in_place_of-fault-requires
fault_in_place_of-fault-requires g c κs =
    let i : Problem = g.S.Rooms.problem c.args.sheet.now in
    let course : c.args.lecture.now.course < course_count i = c.requires.fits.0 in
    let leaving : Fits i c.args.other.now = c.requires.other_fits in
    let there : is_some (room_at c.args.other.now.course c.args.other.now.slot (g.S.Rooms.list c.args.sheet.now)) ≡ true = ap is_some c.requires.other_there in
    search rules

pub fault_in_place_of-requires : goal.fault_in_place_of-requires
fault_in_place_of-requires g c κs =
    let i : Problem = g.S.Rooms.problem c.args.sheet.now in
    let course : c.args.other.now.course < course_count i = c.requires.other_fits.0 in
    let leaving : Fits i c.args.lecture.now = c.requires.fits in
    let there : is_some (room_at c.args.lecture.now.course c.args.lecture.now.slot (g.S.Rooms.list c.args.sheet.now)) ≡ true = ap is_some c.requires.there in
    search rules
