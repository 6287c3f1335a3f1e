-- The faults of files that are compared, as texts of cells and as lines.
use Rattle.std.specs.Prelude.{ℕ, Bool, true, false, List, [], ◌++◌, Result, Ok, Err, codes, decimal, flat_map, string_bytes}
use Rattle.ctt_text.specs.FaultCodes.{instance_at, instance_code, solution_at, solution_code}
use Rattle.ctt_files.specs.Faults.{point_of}
use Rattle.ctt_files.specs.declared.fault.ContentsFault.{ContentsFault}
use Rattle.ctt_files.specs.declared.fault.ContentsFault.TheVariants.{Instance, Solution}
use Rattle.ctt_files.specs.declared.fault.Fault.{Fault}
use Rattle.ctt_files.specs.declared.fault.Fault.TheVariants.{Contents, Machine, Usage}
use Rattle.ctt_files.specs.declared.fault.MachineFault.{MachineFault}
use Rattle.ctt_files.specs.declared.fault.MachineFault.TheVariants.{CannotRead, TooLong}
use Rattle.ctt_commands.specs.declared.group.Candidate.{Candidate}
use Rattle.ctt_commands.specs.declared.group.Group.{Group}
use Rattle.ctt_commands.specs.declared.group.Group.TheVariants.{Read, Refused}

abbrev pub code_text : List ℕ → ℕ → List ℕ
code_text code at = code ++ (codes " " ++ decimal at)

-- the text of a fault: its code and its word or byte, or what the machine could not do
abbrev pub contents_text : ContentsFault → List ℕ
contents_text (Instance met point) = code_text (instance_code met) (instance_at met)
contents_text (Solution met point) = code_text (solution_code met) (solution_at met)
contents_text other = codes "refused"

abbrev pub machine_text : MachineFault → List ℕ
machine_text (CannotRead name) = codes "cannot read"
machine_text (TooLong name) = codes "too long"
machine_text other = codes "refused"

abbrev pub fault_text : Fault → List ℕ
fault_text (Contents met) = contents_text met
fault_text (Machine met) = machine_text met
fault_text (Usage met) = codes "refused"

-- what should be in the file, if its contents are refused
abbrev pub contents_kind : ContentsFault → List ℕ
contents_kind (Instance met point) = codes "instance "
contents_kind (Solution met point) = codes "solution "
contents_kind other = codes ""

abbrev pub kind_text : Fault → List ℕ
kind_text (Contents met) = contents_kind met
kind_text (Machine met) = codes ""
kind_text (Usage met) = codes ""

-- the line of a file that is refused
abbrev pub refusal_line : List ℕ → Fault → List ℕ
refusal_line file fault = codes "timedesk: " ++ (file ++ (codes ": "
    ++ (kind_text fault ++ (fault_text fault ++ codes "\n"))))

-- the same, followed by the place of the fault in the file if that is asked for
abbrev pub refusal_text : Bool → List ℕ → Fault → List ℕ
refusal_text false file fault = refusal_line file fault
refusal_text true file fault = refusal_line file fault ++ point_of fault

-- what is said of a file, if it is refused
abbrev pub refusal_if : {A : Type 0} → Bool → List ℕ → Result A Fault → List ℕ
refusal_if point file (Ok read) = []
refusal_if point file (Err fault) = refusal_text point file fault

-- what is said of an instance and its files: of an instance that is refused alone
abbrev pub refusals_in : Bool → Group → List ℕ
refusals_in point (Read name i candidates) = flat_map
    (λ candidate. refusal_if point (string_bytes candidate.file) candidate.solution)
    candidates.items
refusals_in point (Refused name fault files) = refusal_text point (string_bytes name) fault

abbrev pub refusals : Bool → List Group → List ℕ
refusals point groups = flat_map (refusals_in point) groups
