-- The codes of faults, and the word or byte that each carries.
use Rattle.std.specs.Prelude.{ℕ, List, codes}
use Rattle.ctt_text.specs.declared.fault.BarredFault.{BarredFault}
use Rattle.ctt_text.specs.declared.fault.BarredFault.TheVariants as barred
use Rattle.ctt_text.specs.declared.fault.BlockedFault.{BlockedFault}
use Rattle.ctt_text.specs.declared.fault.BlockedFault.TheVariants as blocked
use Rattle.ctt_text.specs.declared.fault.ReadFault.{ReadFault}
use Rattle.ctt_text.specs.declared.fault.ReadFault.TheVariants as instance
use Rattle.ctt_text.specs.declared.fault.SolutionFault.{SolutionFault}
use Rattle.ctt_text.specs.declared.fault.SolutionFault.TheVariants as solution

-- the code of a fault of an instance, and the word or byte that it carries
abbrev pub instance_told : ReadFault → List ℕ × ℕ
instance_told (instance.NotText at) = (codes "I1", at)
instance_told (instance.Missing at) = (codes "I2", at)
instance_told (instance.Expected at) = (codes "I3", at)
instance_told (instance.BadNumber at) = (codes "I4", at)
instance_told (instance.TooLarge at) = (codes "I5", at)
instance_told (instance.RepeatedName at) = (codes "I6", at)
instance_told (instance.UnknownCourse at) = (codes "I7", at)
instance_told (instance.DayOut at) = (codes "I8", at)
instance_told (instance.PeriodOut at) = (codes "I9", at)
instance_told instance.NoMemory = (codes "memory", 0)

abbrev pub instance_code : ReadFault → List ℕ
instance_code fault = (instance_told fault).0

abbrev pub instance_at : ReadFault → ℕ
instance_at fault = (instance_told fault).1

-- the code of a fault of a solution, and the word or byte that it carries
abbrev pub solution_told : SolutionFault → List ℕ × ℕ
solution_told (solution.NotText at) = (codes "S1", at)
solution_told (solution.Cut at) = (codes "S2", at)
solution_told (solution.UnknownCourse at) = (codes "S3", at)
solution_told (solution.UnknownRoom at) = (codes "S4", at)
solution_told (solution.BadNumber at) = (codes "S5", at)
solution_told (solution.DayOut at) = (codes "S6", at)
solution_told (solution.PeriodOut at) = (codes "S7", at)
solution_told (solution.Repeated at) = (codes "S8", at)
solution_told solution.NoMemory = (codes "memory", 0)

abbrev pub solution_code : SolutionFault → List ℕ
solution_code fault = (solution_told fault).0

abbrev pub solution_at : SolutionFault → ℕ
solution_at fault = (solution_told fault).1

-- the code of a fault of barred rooms, and the word or byte that it carries
abbrev pub barred_told : BarredFault → List ℕ × ℕ
barred_told (barred.NotText at) = (codes "B1", at)
barred_told (barred.Missing at) = (codes "B2", at)
barred_told (barred.Expected at) = (codes "B3", at)
barred_told (barred.BadNumber at) = (codes "B4", at)
barred_told (barred.TooLarge at) = (codes "B5", at)
barred_told (barred.UnknownCourse at) = (codes "B6", at)
barred_told (barred.UnknownRoom at) = (codes "B7", at)
barred_told barred.NoMemory = (codes "memory", 0)

abbrev pub barred_code : BarredFault → List ℕ
barred_code fault = (barred_told fault).0

abbrev pub barred_at : BarredFault → ℕ
barred_at fault = (barred_told fault).1

-- the code of a fault of closures, and the word or byte that it carries
abbrev pub blocked_told : BlockedFault → List ℕ × ℕ
blocked_told (blocked.NotText at) = (codes "L1", at)
blocked_told (blocked.Missing at) = (codes "L2", at)
blocked_told (blocked.Expected at) = (codes "L3", at)
blocked_told (blocked.BadNumber at) = (codes "L4", at)
blocked_told (blocked.TooLarge at) = (codes "L5", at)
blocked_told (blocked.UnknownName at) = (codes "L6", at)
blocked_told (blocked.DayOut at) = (codes "L7", at)
blocked_told (blocked.PeriodOut at) = (codes "L8", at)
blocked_told blocked.NoMemory = (codes "memory", 0)

abbrev pub blocked_code : BlockedFault → List ℕ
blocked_code fault = (blocked_told fault).0

abbrev pub blocked_at : BlockedFault → ℕ
blocked_at fault = (blocked_told fault).1
