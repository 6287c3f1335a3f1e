-- Why a desk could not be run to its end.
use Rattle.std.specs.Prelude.{ℕ, ◌≡◌, ◌<◌, Bool, true, Result, Ok, Err}
use Rattle.ctt_desk.specs.declared.shared_fault.SharedFault.{SharedFault}
use Rattle.ctt_desk.specs.declared.shared_fault.SharedFault.TheVariants as shared
use Rattle.ctt_office.specs.declared.office_fault.OfficeFault.{OfficeFault}
use Rattle.ctt_office.specs.declared.office_fault.OfficeFault.TheVariants.{CannotRead, CannotWrite, NoMemory, NoPlace, NoThread, NotWritten}
use Rattle.ctt_office.specs.declared.office_fault.SeatFault.{SeatFault}
use Rattle.ctt_office.specs.declared.office_fault.SeatFault.TheVariants as seat
use Rattle.ctt_office.specs.declared.sitting.Ending.{Ending}
use Rattle.ctt_office.specs.declared.sitting.Ending.TheVariants as ending

-- a fault of a desk with this number of seats: an unreadable seat is one of them
abbrev pub IsOfficeFault : ℕ → OfficeFault → Type 0
IsOfficeFault seats (CannotRead place) = place < seats
IsOfficeFault seats NoPlace = Unit {0}
IsOfficeFault seats NoThread = Unit {0}
IsOfficeFault seats CannotWrite = Unit {0}
IsOfficeFault seats NotWritten = Unit {0}
IsOfficeFault seats NoMemory = Unit {0}

-- the fault of a shared desk whose opening is lawful: memory or a place is lacking
abbrev pub office_fault_of : SharedFault → OfficeFault
office_fault_of (shared.Unlawful at fault) = NoMemory
office_fault_of shared.NoPlace = NoPlace
office_fault_of shared.NoMemory = NoMemory

-- the fault of a seat that has ended so, if there is one: the planner is not at fault, so only
-- memory can be lacking
abbrev pub fault_of : Ending → Result (Unit {0}) SeatFault
fault_of ending.Left = Ok tt
fault_of ending.Ended = Ok tt
fault_of ending.Broken = Ok tt
fault_of ending.NoMemory = Err seat.NoMemory

-- why the devices of a seat could not be opened: that of its lines may bar, or that of the answers,
-- or memory is lacking
abbrev pub IsBarred : Bool → Bool → SeatFault → Type 0
IsBarred input output seat.CannotRead = input ≡ true
IsBarred input output seat.CannotWrite = output ≡ true
IsBarred input output seat.NoMemory = Unit {0}

-- the fault of the seat with this index
abbrev pub at_seat : ℕ → SeatFault → OfficeFault
at_seat place seat.CannotRead = CannotRead place
at_seat place seat.CannotWrite = CannotWrite
at_seat place seat.NoMemory = NoMemory

-- the first fault so far, after the seat with this index has ended too
abbrev pub first_fault : Result (Unit {0}) OfficeFault → ℕ → Result (Unit {0}) SeatFault → Result (Unit {0}) OfficeFault
first_fault (Err fault) place seat = Err fault
first_fault (Ok done) place (Ok same) = Ok same
first_fault (Ok done) place (Err fault) = Err (at_seat place fault)
