-- The faults of a swap, by the two slots.
use Rattle.std.proofs.Common.{◌≡◌, ◌∙◌, ◌<◌, ℕ, Bool, true, false, not, leb, ◌==◌, ◌&&◌, List, [], ◌∷◌, length, Option, Some, None, is_some, refl, sym, ap, ap₂, arith}
use Rattle.std.specs.List.{filter, find, AllByRecursion as Each}
use Rattle.std.specs.Option.{option_map}
use Rattle.std.proofs.lemmas.Bool.{eq-eqb, lt-leb}
use Rattle.std.proofs.lemmas.Bool.Decides.{nat_tests}
use Rattle.ctt_problem.specs.Problem.{Problem, course_of, clash, is_unavailable, is_barred, is_blocked}
use Rattle.ctt_problem.specs.Timetable.{before, course_row, slot_row, with, without}
use Rattle.ctt_problem.specs.declared.placed.Placed.{Placed}
use Rattle.ctt_rules.specs.Hard.{Lawful}
use Rattle.ctt_rules.proofs.ConflictLemmas.{clash_comm}
use Rattle.ctt_rules.proofs.ListLemmas.{Each-filter}
use Rattle.ctt_board.specs.Changes.{room_of, room_at, clash_at, holder_at, course_named}
use Rattle.ctt_board.proofs.ApplyLemmas.{untouched_at, untouched_slot_at}
use Rattle.ctt_board.proofs.BetweenLemmas.{somewhere}
use Rattle.ctt_board.proofs.FitLemmas.{was_free}
use Rattle.ctt_board.proofs.HolderLemmas.{holder_without, find_nowhere}
use Rattle.ctt_board.proofs.LawfulLemmas.{Free, Each-from_filter, without_lawful, eqb_comm}
use Rattle.ctt_board.proofs.PutLemmas.{filter_filter}
use Rattle.ctt_board.proofs.RoomLemmas.{is_at, room_is, room_after, find-filter, find_put_no}
use Rattle.ctt_edits.specs.Edits.{or_else, fault_if, try_fault, fault_in_place_of, edit_fault}
use Rattle.ctt_edits.specs.declared.edit.Edit.TheVariants.{Swap}
use Rattle.ctt_edits.specs.declared.fault.EditFault.{EditFault}
use Rattle.ctt_edits.specs.declared.fault.EditFault.TheVariants.{AlreadyThere, CourseFull, Unavailable, Barred, Blocked, Clash, RoomTaken}
use Rattle.ctt_edits.proofs.FaultLemmas.{try_is}

-- the faults of a lecture in a free room that is not blocked
abbrev in_place : Bool → Bool → Bool → Option ℕ → Option EditFault
in_place there closed barred clashing = or_else (fault_if there AlreadyThere) (or_else (fault_if closed Unavailable) (or_else (fault_if barred Barred) (option_map Clash clashing)))

not_blocked : (there closed barred : Bool) (rest : Option EditFault) →
    or_else (fault_if there AlreadyThere) (or_else (or_else (fault_if closed Unavailable) (or_else (fault_if barred Barred) None)) rest)
    ≡ or_else (fault_if there AlreadyThere) (or_else (fault_if closed Unavailable) (or_else (fault_if barred Barred) rest))
not_blocked true closed barred rest = refl
not_blocked false true barred rest = refl
not_blocked false false true rest = refl
not_blocked false false false rest = refl

or_none : (o : Option EditFault) → or_else o None ≡ o
or_none None = refl
or_none (Some f) = refl

by_parts : (there full : Bool) (closed : Option EditFault) (clashing taken : Option ℕ) → full ≡ false → taken ≡ None →
    or_else (fault_if there AlreadyThere) (or_else (fault_if full CourseFull) (or_else closed (or_else (option_map Clash clashing) (option_map RoomTaken taken))))
    ≡ or_else (fault_if there AlreadyThere) (or_else closed (option_map Clash clashing))
by_parts there full closed clashing taken e h = rw (e, h) (ap (λ o. or_else (fault_if there AlreadyThere) (or_else closed o)) (or_none (option_map Clash clashing)))

-- the first fault of a lecture by itself
abbrev fault_alone : Problem → ℕ → ℕ → ℕ → Option EditFault
fault_alone i c s r = or_else (fault_if (is_unavailable i c s) Unavailable) (or_else (fault_if (is_barred i c r) Barred) (fault_if (is_blocked i r s) Blocked))

-- the first fault of placing a lecture in a free room, of a course with missing lectures
in_free_room : (i : Problem) (t : List Placed) (c s r : ℕ) → length (course_row c t) < (course_of i c).lectures → holder_at s r t ≡ None →
    try_fault i t c s r ≡ or_else (fault_if (is_some (room_at c s t)) AlreadyThere) (or_else (fault_alone i c s r) (option_map Clash (clash_at i c s t)))
in_free_room i t c s r fewer free = try_is i t c s r ∙ by_parts (is_some (room_at c s t)) (leb (course_of i c).lectures (length (course_row c t))) (fault_alone i c s r) (clash_at i c s t) (holder_at s r t) (lt-leb (course_of i c).lectures (length (course_row c t)) fewer) free

-- the same if the room is not blocked in the slot
in_unblocked_room : (i : Problem) (t : List Placed) (c s r : ℕ) → length (course_row c t) < (course_of i c).lectures → holder_at s r t ≡ None → is_blocked i r s ≡ false →
    try_fault i t c s r ≡ in_place (is_some (room_at c s t)) (is_unavailable i c s) (is_barred i c r) (clash_at i c s t)
in_unblocked_room i t c s r fewer free unblocked = in_free_room i t c s r fewer free ∙ rw unblocked (not_blocked (is_some (room_at c s t)) (is_unavailable i c s) (is_barred i c r) (option_map Clash (clash_at i c s t)))

-- if there is no other fault, the room may be barred
only_barred : (i : Problem) (t : List Placed) (c s r : ℕ) → length (course_row c t) < (course_of i c).lectures → holder_at s r t ≡ None → is_blocked i r s ≡ false → room_at c s t ≡ None → is_unavailable i c s ≡ false → clash_at i c s t ≡ None → try_fault i t c s r ≡ fault_if (is_barred i c r) Barred
only_barred i t c s r fewer free unblocked empty available clear = in_unblocked_room i t c s r fewer free unblocked ∙ rw (empty, available, clear) (or_none (fault_if (is_barred i c r) Barred))

-- two lectures of two courses, each with its room, and the timetable without them
module _ (i : Problem) (t : List Placed) (c s r d e q : ℕ) (lawful : Lawful i t) (there : room_at c s t ≡ Some r) (other_there : room_at d e t ≡ Some q) (apart : (c == d) ≡ false) where
  abbrev left : List Placed
  left = without c s t

  abbrev gone : List Placed
  gone = without d e left

  -- the first one in the place of the other
  abbrev first : List Placed
  first = with (record { course = c; slot = e; room = q }) gone

  left_lawful : Lawful i left
  left_lawful = without_lawful i t c s lawful

  turned : (d == c) ≡ false
  turned = eqb_comm d c ∙ apart

  stays : room_at d e left ≡ Some q
  stays = room_after c s None d e t (ap is_some there) ∙ rw apart other_there

  free : Free i left c s r
  free = was_free i t c s r lawful there

  other_free : Free i gone d e q
  other_free = was_free i left d e q left_lawful stays

  own_fewer : length (course_row c gone) < (course_of i c).lectures
  own_fewer = rw (untouched_at (λ x. x == c) d e None left turned) free.fewer

  other_row : course_row d first ≡ course_row d gone
  other_row = untouched_at (λ x. x == d) c e (Some q) gone apart

  other_fewer : length (course_row d first) < (course_of i d).lectures
  other_fewer = rw other_row other_free.fewer

  nobody : holder_at e q gone ≡ None
  nobody = holder_without i (record { course = d; slot = e; room = q }) left e q left_lawful stays ∙ rw (eq-eqb e e refl, eq-eqb q q refl) refl

  nobody_left : holder_at s r left ≡ None
  nobody_left = holder_without i (record { course = c; slot = s; room = r }) t s r lawful there ∙ rw (eq-eqb s s refl, eq-eqb r r refl) refl

  -- in two slots each slot loses one and gets one
  module _ (differ : (s == e) ≡ false) where
    back : (e == s) ≡ false
    back = eqb_comm e s ∙ differ

    here : slot_row e gone ≡ slot_row e (without d e t)
    here = ap (slot_row e) (filter_filter (λ l. not (l.course == d && l.slot == e)) (λ l. not (l.course == c && l.slot == s)) t) ∙ untouched_slot_at (λ x. x == e) c s None (without d e t) differ

    own_room : room_at c e gone ≡ room_at c e t
    own_room = room_after d e None c e left (ap is_some stays) ∙ rw turned (room_after c s None c e t (ap is_some there) ∙ rw (eq-eqb c c refl, differ) refl)

    first_is : fault_in_place_of i t c (record { course = d; slot = e; room = q }) ≡ try_fault i gone c e q
    first_is = ap₂ (λ o x. in_place (is_some o) (is_unavailable i c e) (is_barred i c q) x) (sym own_room) (ap (λ ls. course_named (find (λ l. clash i c l.course) ls)) (sym here)) ∙ sym (in_unblocked_room i gone c e q own_fewer nobody other_free.allowed.2)

    there_row : slot_row s first ≡ slot_row s left
    there_row = untouched_slot_at (λ x. x == s) c e (Some q) gone back ∙ untouched_slot_at (λ x. x == s) d e None left back

    other_room : room_at d s first ≡ room_at d s t
    other_room = ap (λ ls. room_of (find (λ l. l.slot == s) ls)) other_row ∙ room_after d e None d s left (ap is_some stays) ∙ rw (eq-eqb d d refl, back) (room_after c s None d s t (ap is_some there) ∙ rw apart refl)

    second_is : fault_in_place_of i t d (record { course = c; slot = s; room = r }) ≡ try_fault i first d s r
    second_is = ap₂ (λ o x. in_place (is_some o) (is_unavailable i d s) (is_barred i d r) x) (sym other_room) (ap (λ ls. course_named (find (λ l. clash i d l.course) ls)) (sym there_row))
        ∙ sym (in_unblocked_room i first d s r other_fewer (ap (λ ls. course_named (find (λ l. l.room == r) ls)) there_row ∙ nobody_left) free.allowed.2)

    pub by_slots : edit_fault i t (Swap c s d e) ≡ or_else (fault_in_place_of i t c (record { course = d; slot = e; room = q })) (fault_in_place_of i t d (record { course = c; slot = s; room = r }))
    by_slots = rw (there, other_there, apart) (ap₂ or_else (sym first_is) (sym second_is))

  -- in one slot they only take each other's room
  module _ (same : e ≡ s) where
    both : Each (λ (l : Placed). (l.slot == s) ≡ true → (clash i c l.course ≡ false) × ((l.room == r) ≡ false)) left
    both = Each-from_filter (λ (l : Placed). (clash i c l.course ≡ false) × ((l.room == r) ≡ false)) (λ l. l.slot == s) left (Each-both (slot_row s left) free.no_clash free.room_free)
      where
        Each-both : (xs : List Placed) → Each (λ (l : Placed). clash i c l.course ≡ false) xs → Each (λ (l : Placed). (l.room == r) ≡ false) xs → Each (λ (l : Placed). (clash i c l.course ≡ false) × ((l.room == r) ≡ false)) xs
        Each-both [] g h = tt
        Each-both (x ∷ xs) g h = ((g.0, h.0), Each-both xs g.1 h.1)

    unlike : (clash i c d ≡ false) × ((q == r) ≡ false)
    unlike =
        let found = somewhere (λ (l : Placed). (l.slot == s) ≡ true → (clash i c l.course ≡ false) × ((l.room == r) ≡ false)) (is_at d e) left q both (sym (room_is d e left) ∙ stays) in
        let l : Placed = found.0 in
        let course : l.course ≡ d = grind (arith, nat_tests, found.2) in
        let slot : (l.slot == s) ≡ true = grind (arith, nat_tests, found.2, same) in
        let it = found.1 slot in
        (ap (clash i c) (sym course) ∙ it.0, ap (λ x. x == r) (sym found.3) ∙ it.1)

    without_them : (p : Placed → Bool) → Each (λ l. p l ≡ false) (slot_row s left) → find p (slot_row s gone) ≡ None
    without_them p h = ap (find p) (filter_filter (λ l. l.slot == s) (λ l. not (l.course == d && l.slot == e)) left) ∙ find_nowhere p (filter (λ l. not (l.course == d && l.slot == e)) (slot_row s left)) (Each-filter (λ l. p l ≡ false) (λ l. not (l.course == d && l.slot == e)) (slot_row s left) h)

    own_empty : room_at c e gone ≡ None
    own_empty = room_after d e None c e left (ap is_some stays) ∙ rw turned (room_after c s None c e t (ap is_some there) ∙ rw (eq-eqb c c refl, eq-eqb s e (sym same)) refl)

    own_clear : clash_at i c e gone ≡ None
    own_clear = ap (λ x. course_named (find (λ l. clash i c l.course) (slot_row x gone))) same ∙ ap course_named (without_them (λ l. clash i c l.course) free.no_clash)

    first_barred : try_fault i gone c e q ≡ fault_if (is_barred i c q) Barred
    first_barred = only_barred i gone c e q own_fewer nobody other_free.allowed.2 own_empty (rw same free.allowed.0) own_clear

    -- if no lecture in the slot passes, nor the one that was added, none passes now
    with_first : (p : Placed → Bool) → p (record { course = c; slot = e; room = q }) ≡ false → find p (slot_row s gone) ≡ None → find p (slot_row s first) ≡ None
    with_first p own none =
        find-filter (λ l. l.slot == s) p first
        ∙ find_put_no (λ l. (l.slot == s) && p l) before (record { course = c; slot = e; room = q }) gone (rw own (and_no (e == s)))
        ∙ sym (find-filter (λ l. l.slot == s) p gone) ∙ none
      where
        and_no : (b : Bool) → (b && false) ≡ false
        and_no true = refl
        and_no false = refl

    other_empty : room_at d s first ≡ None
    other_empty = ap (λ ls. room_of (find (λ l. l.slot == s) ls)) other_row ∙ room_after d e None d s left (ap is_some stays) ∙ rw (eq-eqb d d refl, eq-eqb e s same) refl

    other_clear : clash_at i d s first ≡ None
    other_clear = ap course_named (with_first (λ l. clash i d l.course) (clash_comm i d c ∙ unlike.0) (ap (λ x. find (λ l. clash i d l.course) (slot_row x gone)) (sym same) ∙ find_nowhere (λ l. clash i d l.course) (slot_row e gone) other_free.no_clash))

    other_nobody : holder_at s r first ≡ None
    other_nobody = ap course_named (with_first (λ l. l.room == r) unlike.1 (without_them (λ l. l.room == r) free.room_free))

    second_barred : try_fault i first d s r ≡ fault_if (is_barred i d r) Barred
    second_barred = only_barred i first d s r other_fewer other_nobody free.allowed.2 other_empty (rw (← same) other_free.allowed.0) other_clear

    -- which may be barred
    pub within : edit_fault i t (Swap c s d e) ≡ or_else (fault_if (is_barred i c q) Barred) (fault_if (is_barred i d r) Barred)
    within = rw (there, other_there, apart) (ap₂ or_else first_barred second_barred)
