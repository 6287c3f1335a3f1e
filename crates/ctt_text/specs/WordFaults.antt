-- The fault of each text for what is wrong with a word. Kinds of words that a text does not have
-- share a line.
use Rattle.std.specs.Prelude.{ℕ}
use Rattle.ctt_text.specs.declared.fault.BarredFault.{BarredFault}
use Rattle.ctt_text.specs.declared.fault.BarredFault.TheVariants as barred
use Rattle.ctt_text.specs.declared.fault.BlockedFault.{BlockedFault}
use Rattle.ctt_text.specs.declared.fault.BlockedFault.TheVariants as blocked
use Rattle.ctt_text.specs.declared.fault.ReadFault.{ReadFault}
use Rattle.ctt_text.specs.declared.fault.ReadFault.TheVariants as instance
use Rattle.ctt_text.specs.declared.fault.SolutionFault.{SolutionFault}
use Rattle.ctt_text.specs.declared.fault.SolutionFault.TheVariants as solution
use Rattle.ctt_text.specs.declared.text_fault.WordFault.{WordFault}
use Rattle.ctt_text.specs.declared.text_fault.WordFault.TheVariants.{Missing, OtherWord, BadNumber, TooLarge, UnknownCourse, UnknownRoom, DayOut, PeriodOut}

-- of an instance
abbrev pub instance_fault : WordFault → ℕ → ReadFault
instance_fault Missing = instance.Missing
instance_fault BadNumber = instance.BadNumber
instance_fault TooLarge = instance.TooLarge
instance_fault UnknownCourse = instance.UnknownCourse
instance_fault DayOut = instance.DayOut
instance_fault PeriodOut = instance.PeriodOut
instance_fault _ = instance.Expected

-- of a solution
abbrev pub solution_fault : WordFault → ℕ → SolutionFault
solution_fault Missing = solution.Cut
solution_fault UnknownCourse = solution.UnknownCourse
solution_fault UnknownRoom = solution.UnknownRoom
solution_fault DayOut = solution.DayOut
solution_fault PeriodOut = solution.PeriodOut
solution_fault _ = solution.BadNumber

-- of barred rooms
abbrev pub barred_fault : WordFault → ℕ → BarredFault
barred_fault Missing = barred.Missing
barred_fault OtherWord = barred.Expected
barred_fault TooLarge = barred.TooLarge
barred_fault UnknownCourse = barred.UnknownCourse
barred_fault UnknownRoom = barred.UnknownRoom
barred_fault _ = barred.BadNumber

-- of closures
abbrev pub blocked_fault : WordFault → ℕ → BlockedFault
blocked_fault Missing = blocked.Missing
blocked_fault OtherWord = blocked.Expected
blocked_fault BadNumber = blocked.BadNumber
blocked_fault TooLarge = blocked.TooLarge
blocked_fault DayOut = blocked.DayOut
blocked_fault PeriodOut = blocked.PeriodOut
blocked_fault _ = blocked.UnknownName
