use Rattle.std.proofs.Common.{◌<◌, length, inl, inr, subst, sym, ⊎_elim}
use Rattle.ctt_office.specs.OfficeFaults.{IsOfficeFault}
use Rattle.ctt_program.specs.Desks.{IsToldOf, IsUnreadAt}
use Rattle.ctt_program.proofs.Offices.{of_unread, unread_in, unread_of}
use Rattle.ctt_program.proofs.desk.fault_of_office.Goals as goal

pub returns-in-CannotRead-clause-cause : goal.returns-in-CannotRead-clause-cause
returns-in-CannotRead-clause-cause c =
    let seats = c.args.seats.now in
    let place = c.in-CannotRead.place in
    let within : place < length seats = subst (IsOfficeFault (length seats)) c.in-CannotRead.is c.requires in
    of_unread seats c.fault_of_seat.result c.as_str.result.now
    (λ named. unread_in seats place c.index-seats-place.result c.fault_of_seat.result within c.index-seats-place.is (subst (λ seat. IsUnreadAt seat c.fault_of_seat.result) c.as_str.ensures.value named))
    c.fault_of_seat.ensures

pub returns-in-CannotRead-clause-told : goal.returns-in-CannotRead-clause-told
returns-in-CannotRead-clause-told c =
    let seats = c.args.seats.now in
    let place = c.in-CannotRead.place in
    let within : place < length seats = subst (IsOfficeFault (length seats)) c.in-CannotRead.is c.requires in
    subst (λ fault. IsToldOf seats fault c.fault_of_seat.result) (sym c.in-CannotRead.is) (⊎_elim
    (λ named. inl (unread_of seats place c.index-seats-place.result c.fault_of_seat.result within c.index-seats-place.is (subst (λ seat. IsUnreadAt seat c.fault_of_seat.result) c.as_str.ensures.value named)))
    inr c.fault_of_seat.ensures)
