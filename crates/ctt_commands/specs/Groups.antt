-- Instances and their solutions, as their files have them.
use Rattle.std.specs.Prelude.{◌≡◌, ◌≢◌, ◌⊎◌, ◌∷◌, [], ℕ, List, None, Ok, MatchResult, IfOk, map, string_bytes}
use Rattle.std.specs.Global.{Global}
use Rattle.std.specs.List.{AllByRecursion as Each}
use Rattle.std.specs.declared.string.String.{String}
use Rattle.ctt_problem.specs.Problem.{Problem}
use Rattle.ctt_problem.specs.Timetable.{IsTimetable}
use Rattle.ctt_files.specs.Refusals.{IsOfInstanceIn, IsOfSolution}
use Rattle.ctt_files.specs.Texts.{Held, Holds, IsInstanceIn, IsSolutionText}
use Rattle.ctt_files.specs.declared.fault.Fault.{Fault}
use Rattle.ctt_files.specs.declared.fault.Fault.TheVariants.{Machine}
use Rattle.ctt_files.specs.declared.fault.MachineFault.TheVariants.{NoMemory}
use Rattle.ctt_files.specs.declared.sides.Sides.{Sides}
use Rattle.ctt_commands.specs.Lists.{InTurn}
use Rattle.ctt_commands.specs.Pairs.{NamePair, by_instance, pairs_in, wanted_of}
use Rattle.ctt_commands.specs.declared.group.Candidate.{Candidate}
use Rattle.ctt_commands.specs.declared.group.Group.{Group}
use Rattle.ctt_commands.specs.declared.group.Group.TheVariants.{Read, Refused}
use Rattle.ctt_commands.specs.declared.pairs.Wanted.{Wanted}

-- the file contains this solution, or is refused with this fault
abbrev pub IsCandidate : Held → Problem → String Global → Candidate → Type 0
IsCandidate held problem file candidate = (string_bytes candidate.file ≡ string_bytes file)
    × MatchResult candidate.solution
    (λ timetable. Holds held file (λ text. IsSolutionText problem text timetable.items))
    (λ fault. IsOfSolution file held problem fault × (fault ≢ Machine NoMemory))

-- the group has an instance of this name, and these files as its solutions
abbrev pub IsReadAs : Held → String Global → Problem → List (String Global) → Group → Type 0
IsReadAs held instance problem solutions (Read name i candidates) =
    (string_bytes name ≡ string_bytes instance) × (i ≡ problem)
    × InTurn (IsCandidate held problem) solutions candidates.items
IsReadAs held instance problem solutions (Refused name fault files) = ⊥

-- the file of this name contains the instance of the group, with what its side files say, and these
-- files are its solutions
abbrev pub IsGroupRead : Held → String Global → Sides → List (String Global) → Group → Type 0
IsGroupRead held instance sides solutions group = (problem : Problem)
    × IsInstanceIn held instance sides problem × IsReadAs held instance problem solutions group

-- the same of the one instance of a comparison
abbrev pub IsCompared : Held → String Global → Sides → List (String Global) → List Group → Type 0
IsCompared held instance sides solutions (group ∷ []) =
    IsGroupRead held instance sides solutions group
IsCompared held instance sides solutions other = ⊥

-- the file of this name is refused with this fault, and these are the files of its solutions
abbrev pub IsGroupRefused : Held → String Global → Sides → List (String Global) → Group → Type 0
IsGroupRefused held instance sides solutions (Read name problem candidates) = ⊥
IsGroupRefused held instance sides solutions (Refused name fault files) =
    (string_bytes name ≡ string_bytes instance) × IsOfInstanceIn held instance sides fault
    × (fault ≢ Machine NoMemory) × (files.items ≡ solutions)

-- no side files
abbrev pub no_sides : Sides
no_sides = record { barred = None; blocked = None }

-- an instance of the pairs, which is read or refused
abbrev pub IsGroup : Held → Wanted → Group → Type 0
IsGroup held wanted group = IsGroupRead held wanted.instance no_sides wanted.solutions.items group
    ⊎ IsGroupRefused held wanted.instance no_sides wanted.solutions.items group

-- the text names these instances and solutions
abbrev pub AreWanted : List ℕ → List Wanted → Type 0
AreWanted text wanted = (pairs : List NamePair) × (pairs_in text ≡ Ok pairs)
    × (map wanted_of wanted ≡ by_instance pairs)

-- the instances that the file of pairs names, with their solutions
abbrev pub AreGroups : Held → String Global → List Group → Type 0
AreGroups held pairs groups = (wanted : List Wanted)
    × Holds held pairs (λ text. AreWanted text wanted) × InTurn (IsGroup held) wanted groups

-- the solution is a timetable of the instance, unless the file is refused
abbrev pub CandidateFits : Problem → Candidate → Type 0
CandidateFits problem candidate =
    IfOk candidate.solution (λ timetable. IsTimetable problem timetable.items)

abbrev pub GroupFits : Group → Type 0
GroupFits (Read name problem candidates) = Each (CandidateFits problem) candidates.items
GroupFits (Refused name fault files) = Unit {0}
