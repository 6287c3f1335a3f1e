-- Faults of texts that are not that memory ran out.
use Rattle.std.proofs.Common.{◌≡◌, false, refl}
use Rattle.ctt_text.specs.BarredPlaces as barred_places
use Rattle.ctt_text.specs.BlockedPlaces as blocked_places
use Rattle.ctt_text.specs.InstancePlaces as instance_places
use Rattle.ctt_text.specs.SolutionPlaces.{lacks_memory}
use Rattle.ctt_text.specs.declared.fault.BarredFault.{BarredFault}
use Rattle.ctt_text.specs.declared.fault.BarredFault.TheVariants as barred
use Rattle.ctt_text.specs.declared.fault.BlockedFault.{BlockedFault}
use Rattle.ctt_text.specs.declared.fault.BlockedFault.TheVariants as blocked
use Rattle.ctt_text.specs.declared.fault.ReadFault.{ReadFault}
use Rattle.ctt_text.specs.declared.fault.ReadFault.TheVariants as instance
use Rattle.ctt_text.specs.declared.fault.SolutionFault.{SolutionFault}
use Rattle.ctt_text.specs.declared.fault.SolutionFault.TheVariants as solution

pub instance_kept : (met : ReadFault) → (met ≡ instance.NoMemory → ⊥) → instance_places.wants_memory met ≡ false
instance_kept (instance.NotText at) not = refl
instance_kept (instance.Missing at) not = refl
instance_kept (instance.Expected at) not = refl
instance_kept (instance.BadNumber at) not = refl
instance_kept (instance.TooLarge at) not = refl
instance_kept (instance.RepeatedName at) not = refl
instance_kept (instance.UnknownCourse at) not = refl
instance_kept (instance.DayOut at) not = refl
instance_kept (instance.PeriodOut at) not = refl
instance_kept instance.NoMemory not = absurd (not refl)

pub solution_kept : (met : SolutionFault) → (met ≡ solution.NoMemory → ⊥) → lacks_memory met ≡ false
solution_kept (solution.NotText at) not = refl
solution_kept (solution.Cut at) not = refl
solution_kept (solution.UnknownCourse at) not = refl
solution_kept (solution.UnknownRoom at) not = refl
solution_kept (solution.BadNumber at) not = refl
solution_kept (solution.DayOut at) not = refl
solution_kept (solution.PeriodOut at) not = refl
solution_kept (solution.Repeated at) not = refl
solution_kept solution.NoMemory not = absurd (not refl)

pub barred_kept : (met : BarredFault) → (met ≡ barred.NoMemory → ⊥) → barred_places.wants_memory met ≡ false
barred_kept (barred.NotText at) not = refl
barred_kept (barred.Missing at) not = refl
barred_kept (barred.Expected at) not = refl
barred_kept (barred.BadNumber at) not = refl
barred_kept (barred.TooLarge at) not = refl
barred_kept (barred.UnknownCourse at) not = refl
barred_kept (barred.UnknownRoom at) not = refl
barred_kept barred.NoMemory not = absurd (not refl)

pub blocked_kept : (met : BlockedFault) → (met ≡ blocked.NoMemory → ⊥) → blocked_places.wants_memory met ≡ false
blocked_kept (blocked.NotText at) not = refl
blocked_kept (blocked.Missing at) not = refl
blocked_kept (blocked.Expected at) not = refl
blocked_kept (blocked.BadNumber at) not = refl
blocked_kept (blocked.TooLarge at) not = refl
blocked_kept (blocked.UnknownName at) not = refl
blocked_kept (blocked.DayOut at) not = refl
blocked_kept (blocked.PeriodOut at) not = refl
blocked_kept blocked.NoMemory not = absurd (not refl)
