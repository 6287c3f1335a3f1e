-- The faults of a crew, and their causes.
use Rattle.std.specs.Prelude.{ℕ, ◌<◌, ◌≡◌, Result, Ok, Err}
use Rattle.ctt_desk.specs.declared.shared_fault.SharedFault.{SharedFault}
use Rattle.ctt_desk.specs.declared.shared_fault.SharedFault.TheVariants.{Unlawful, NoPlace as Unplaced, NoMemory}
use Rattle.ctt_crew.specs.declared.crew_fault.CrewFault.{CrewFault}
use Rattle.ctt_crew.specs.declared.crew_fault.CrewFault.TheVariants as crew_fault

-- the fault of a desk that opens empty, as a crew's fault
abbrev pub crew_fault_of : SharedFault → CrewFault
crew_fault_of (Unlawful at f) = crew_fault.NoMemory
crew_fault_of Unplaced = crew_fault.NoPlace
crew_fault_of NoMemory = crew_fault.NoMemory

-- a fault of a crew of this many planners: a thread that was not started is that of one of them
abbrev pub IsCrewFault : ℕ → CrewFault → Type 0
IsCrewFault planners (crew_fault.NoThread p) = p < planners
IsCrewFault planners crew_fault.NoPlace = Unit {0}
IsCrewFault planners crew_fault.NoMemory = Unit {0}

-- why a planner's thread was not added: memory ran out after it was started, or it was not started
abbrev pub added_fault : {T E : Type 0} → ℕ → Result T E → CrewFault
added_fault planner (Ok thread) = crew_fault.NoMemory
added_fault planner (Err refused) = crew_fault.NoThread planner

-- why there is no report: memory ran out for it if the run succeeded, or else the fault of the run
abbrev pub IsReportFault : {A : Type 0} → Result A CrewFault → CrewFault → Type 0
IsReportFault (Ok done) fault = fault ≡ crew_fault.NoMemory
IsReportFault (Err why) fault = fault ≡ why
