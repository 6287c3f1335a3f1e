-- The faults of the program, with their exit statuses and lines.
use Rattle.std.specs.Prelude.{◌≡◌, ◌⊎◌, ◌++◌, ◌∷◌, [], ℕ, List, codes, if◌then◌else◌}
use Rattle.std.specs.Fmt.{decimal}
use Rattle.std.specs.Global.{Global}
use Rattle.std.specs.String.{string_bytes}
use Rattle.std.specs.declared.string.String.{String}
use Rattle.ctt_files.specs.declared.input.InputFault.{InputFault}
use Rattle.ctt_files.specs.declared.input.InputFault.TheVariants as input
use Rattle.ctt_line.specs.Lines.{line}
use Rattle.ctt_text.specs.BarredPlaces as barred
use Rattle.ctt_text.specs.BlockedPlaces as blocked
use Rattle.ctt_text.specs.FaultCodes.{barred_at, barred_code, blocked_at, blocked_code, instance_at, instance_code, solution_at, solution_code}
use Rattle.ctt_text.specs.InstancePlaces as instance
use Rattle.ctt_text.specs.Points.{barred_point, blocked_point, instance_point, solution_point}
use Rattle.ctt_text.specs.SolutionPlaces.{lacks_memory}
use Rattle.ctt_text.specs.declared.fault.BarredFault.{BarredFault}
use Rattle.ctt_text.specs.declared.fault.BlockedFault.{BlockedFault}
use Rattle.ctt_text.specs.declared.fault.ReadFault.{ReadFault}
use Rattle.ctt_text.specs.declared.fault.SolutionFault.{SolutionFault}
use Rattle.ctt_files.specs.declared.fault.ContentsFault.{ContentsFault}
use Rattle.ctt_files.specs.declared.fault.ContentsFault.TheVariants.{Barred, Blocked, Ends, Instance, Journal, NoByte, NoCourse, NoCurriculum, NoRoom, NoTeacher, NoWord, Opening, Pairs, Solution}
use Rattle.ctt_files.specs.declared.fault.Fault.{Fault}
use Rattle.ctt_files.specs.declared.fault.Fault.TheVariants.{Contents, Machine, Usage}
use Rattle.ctt_files.specs.declared.fault.MachineFault.{MachineFault}
use Rattle.ctt_files.specs.declared.fault.MachineFault.TheVariants.{CannotRead, CannotWrite, MinutesExist, NoMemory, NoPlace, NoThread, TooLong}
use Rattle.ctt_files.specs.declared.fault.UsageFault.{UsageFault}
use Rattle.ctt_files.specs.declared.fault.UsageFault.TheVariants.{BadSeats, TooManyScripts, Words, WordsNotText}

-- the program's fault for a fault of an instance, with the line that says where and why: running
-- out of memory has a fault of its own
abbrev pub fault_of_instance : ReadFault → String Global → Fault
fault_of_instance met point = if instance.wants_memory met then Machine NoMemory else Contents (Instance met point)

-- the program's fault for a fault of a solution
abbrev pub fault_of_solution : SolutionFault → String Global → Fault
fault_of_solution met point = if lacks_memory met then Machine NoMemory else Contents (Solution met point)

-- the program's fault for a fault of barred rooms
abbrev pub fault_of_barred : BarredFault → String Global → Fault
fault_of_barred met point = if barred.wants_memory met then Machine NoMemory else Contents (Barred met point)

-- the program's fault for a fault of what is blocked
abbrev pub fault_of_blocked : BlockedFault → String Global → Fault
fault_of_blocked met point = if blocked.wants_memory met then Machine NoMemory else Contents (Blocked met point)

-- the fault tells what was met, with this line, or memory ran out
abbrev pub TellsOf : {E : Type 0} → (E → String Global → Fault) → List ℕ → E → Fault → Type 0
TellsOf told line met fault = (fault ≡ Machine NoMemory) ⊎ ((point : String Global) × (string_bytes point ≡ line) × (fault ≡ told met point))

-- the fault tells what was met in this text of the file of this name, and where
abbrev pub IsInstanceFault : List ℕ → List ℕ → ReadFault → Fault → Type 0
IsInstanceFault file text met fault = TellsOf fault_of_instance (instance_point file text met) met fault

abbrev pub IsSolutionFault : List ℕ → List ℕ → SolutionFault → Fault → Type 0
IsSolutionFault file text met fault = TellsOf fault_of_solution (solution_point file text met) met fault

abbrev pub IsBarredFault : List ℕ → List ℕ → BarredFault → Fault → Type 0
IsBarredFault file text met fault = TellsOf fault_of_barred (barred_point file text met) met fault

abbrev pub IsBlockedFault : List ℕ → List ℕ → BlockedFault → Fault → Type 0
IsBlockedFault file text met fault = TellsOf fault_of_blocked (blocked_point file text met) met fault

-- the program's fault for a fault of reading the file of this name
abbrev pub fault_of_input : String Global → InputFault → Fault
fault_of_input name input.Read = Machine (CannotRead name)
fault_of_input name input.TooLong = Machine (TooLong name)
fault_of_input name input.NoMemory = Machine NoMemory

-- the exit status: 1 if the contents of a file are refused or a name is unknown, 2 if the command
-- line is refused, and 3 if the machine failed
abbrev pub status_of : Fault → ℕ
status_of (Contents met) = 1
status_of (Usage met) = 2
status_of (Machine met) = 3

-- P if a write failed, otherwise Q
abbrev pub IfUnwritten : Fault → Type 0 → Type 0 → Type 0
IfUnwritten (Machine CannotWrite) P Q = P
IfUnwritten _ P Q = Q

-- a part of the answers may have been printed before the fault
abbrev pub MayHaveWritten : Fault → Type 0
MayHaveWritten (Machine CannotWrite) = Unit {0}
MayHaveWritten (Machine NoMemory) = Unit {0}
MayHaveWritten _ = ⊥

-- ---- the lines on standard error

-- the line of a text that is refused: what was refused, the code of the fault, and the word or byte
abbrev pub place_line : List ℕ → List ℕ → ℕ → List ℕ
place_line what code at = line ((codes "timedesk: " ++ what) ∷ code ∷ decimal at ∷ [])

-- the line of a journal that is refused, by the number of the fault
abbrev pub journal_line : ℕ → ℕ → List ℕ
journal_line number at = place_line (codes "journal") (codes "J" ++ decimal number) at

-- the line of a list of pairs that is refused, by the number of the fault and of the line
abbrev pub pairs_line : ℕ → ℕ → List ℕ
pairs_line number at = place_line (codes "pairs") (codes "P" ++ decimal number) at

-- the line of something that has a name
abbrev pub name_line : List ℕ → String Global → List ℕ
name_line what name = line ((codes "timedesk: " ++ what) ∷ string_bytes name ∷ [])

-- the line of something by its number, which a file does not have
abbrev pub lack_line : List ℕ → String Global → String Global → List ℕ
lack_line what number file = line ((codes "timedesk: no " ++ what) ∷ string_bytes number ∷ codes "in" ∷ string_bytes file ∷ [])

-- the line of refused contents; that of a lecture that cannot be placed, and that of a text which
-- ends before what is asked for, are given
abbrev pub contents_line : ContentsFault → List ℕ
contents_line (Instance met point) = place_line (codes "instance") (instance_code met) (instance_at met)
contents_line (Solution met point) = place_line (codes "solution") (solution_code met) (solution_at met)
contents_line (Barred met point) = place_line (codes "barred") (barred_code met) (barred_at met)
contents_line (Blocked met point) = place_line (codes "blocked") (blocked_code met) (blocked_at met)
contents_line (Journal number at point) = journal_line number at
contents_line (Pairs number at point) = pairs_line number at
contents_line (Opening text) = string_bytes text
contents_line (NoCurriculum name) = name_line (codes "no curriculum") name
contents_line (NoTeacher name) = name_line (codes "no teacher") name
contents_line (NoCourse name) = name_line (codes "no course") name
contents_line (NoRoom name) = name_line (codes "no room") name
contents_line (NoWord word file) = lack_line (codes "word") word file
contents_line (NoByte byte file) = lack_line (codes "byte") byte file
contents_line (Ends text) = string_bytes text

-- the line of a refused command line; what `clap` says of it is given
abbrev pub usage_line : UsageFault → List ℕ
usage_line (Words text) = string_bytes text
usage_line WordsNotText = codes "timedesk: words that are not text\n"
usage_line TooManyScripts = codes "timedesk: too many scripts\n"
usage_line BadSeats = codes "timedesk: at most 64 seats, each once\n"

-- the line of what the machine could not do
abbrev pub machine_line : MachineFault → List ℕ
machine_line (CannotRead name) = name_line (codes "cannot read") name
machine_line (TooLong name) = name_line (codes "too long") name
machine_line CannotWrite = codes "timedesk: cannot write\n"
machine_line NoMemory = codes "timedesk: no memory\n"
machine_line NoThread = codes "timedesk: no thread\n"
machine_line NoPlace = codes "timedesk: no place\n"
machine_line (MinutesExist name) = name_line (codes "minutes exist") name

-- what is reported of a fault
abbrev pub line_of : Fault → List ℕ
line_of (Contents met) = contents_line met
line_of (Usage met) = usage_line met
line_of (Machine met) = machine_line met

-- the line that says where and why a text is refused
abbrev pub contents_point : ContentsFault → List ℕ
contents_point (Instance met point) = string_bytes point
contents_point (Solution met point) = string_bytes point
contents_point (Barred met point) = string_bytes point
contents_point (Blocked met point) = string_bytes point
contents_point (Journal number at point) = string_bytes point
contents_point (Pairs number at point) = string_bytes point
contents_point _ = []

-- this line, or nothing if the fault is of no text
abbrev pub point_of : Fault → List ℕ
point_of (Contents met) = contents_point met
point_of _ = []
