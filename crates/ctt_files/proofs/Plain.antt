-- The faults of texts and files: none is of the command line or of writing.
use Rattle.std.proofs.Common.{◌≡◌, ⊎_elim, ◌∙◌, inl, inr, sym, subst, ℕ, List, IfErr, IfSome, IsErrAnd, OnOk, Option, Some, None, Result, Ok, Err, Bool, true, false, if◌then◌else◌}
use Rattle.std.specs.Global.{Global}
use Rattle.std.specs.String.{string_bytes}
use Rattle.std.specs.declared.string.String.{String}
use Rattle.ctt_problem.specs.Problem.{Problem}
use Rattle.ctt_text.specs.BarredPlaces as barred
use Rattle.ctt_text.specs.BlockedPlaces as blocked
use Rattle.ctt_text.specs.InstancePlaces as instance
use Rattle.ctt_text.specs.SolutionPlaces.{lacks_memory}
use Rattle.ctt_text.specs.declared.fault.BarredFault.{BarredFault}
use Rattle.ctt_text.specs.declared.fault.BlockedFault.{BlockedFault}
use Rattle.ctt_text.specs.declared.fault.ReadFault.{ReadFault}
use Rattle.ctt_text.specs.declared.fault.SolutionFault.{SolutionFault}
use Rattle.ctt_files.specs.declared.input.InputFault.{InputFault}
use Rattle.ctt_files.specs.declared.input.InputFault.TheVariants as input
use Rattle.ctt_files.specs.Faults.{IfUnwritten, IsBarredFault, IsBlockedFault, IsInstanceFault, IsSolutionFault, TellsOf, fault_of_barred, fault_of_blocked, fault_of_input, fault_of_instance, fault_of_solution}
use Rattle.ctt_files.specs.Refusals.{IsNoText, IsOfBarred, IsOfBlocked, IsOfFile, IsOfInstance, IsOfInstanceIn, IsOfInstanceOr, IsOfSides, IsOfSolution, IsOfStart, IsOfText}
use Rattle.ctt_files.specs.Texts.{Held, Holds, IsInstanceIn}
use Rattle.ctt_files.specs.declared.fault.Fault.{Fault}
use Rattle.ctt_files.specs.declared.fault.ContentsFault.TheVariants.{Barred, Blocked, Instance, Solution}
use Rattle.ctt_files.specs.declared.fault.Fault.TheVariants.{Contents, Machine, Usage}
use Rattle.ctt_files.specs.declared.fault.MachineFault.{MachineFault}
use Rattle.ctt_files.specs.declared.fault.MachineFault.TheVariants.{CannotRead, CannotWrite, MinutesExist, NoMemory, NoPlace, NoThread, TooLong}
use Rattle.ctt_files.specs.declared.sides.Sides.{Sides}

-- the machine failed, but not in writing
abbrev pub IsRead : MachineFault → Type 0
IsRead CannotWrite = ⊥
IsRead _ = Unit {0}

-- the fault is of a text, a file, a place or a thread, or memory ran out
abbrev pub IsPlain : Fault → Type 0
IsPlain (Contents met) = Unit {0}
IsPlain (Usage met) = ⊥
IsPlain (Machine met) = IsRead met

machine_written : (met : MachineFault) (P Q : Type 0) → IsRead met → Q → IfUnwritten (Machine met) P Q
machine_written (CannotRead name) P Q plain q = q
machine_written (TooLong name) P Q plain q = q
machine_written CannotWrite P Q plain q = absurd plain
machine_written NoMemory P Q plain q = q
machine_written NoThread P Q plain q = q
machine_written NoPlace P Q plain q = q
machine_written (MinutesExist name) P Q plain q = q

pub plain_written : (fault : Fault) (P Q : Type 0) → IsPlain fault → Q → IfUnwritten fault P Q
plain_written (Contents met) P Q plain q = q
plain_written (Usage met) P Q plain q = absurd plain
plain_written (Machine met) P Q plain q = machine_written met P Q plain q

machine_more : (met : MachineFault) (P Q R S : Type 0) → (P → R) → (Q → S) → IfUnwritten (Machine met) P Q → IfUnwritten (Machine met) R S
machine_more (CannotRead name) P Q R S p q is = q is
machine_more (TooLong name) P Q R S p q is = q is
machine_more CannotWrite P Q R S p q is = p is
machine_more NoMemory P Q R S p q is = q is
machine_more NoThread P Q R S p q is = q is
machine_more NoPlace P Q R S p q is = q is
machine_more (MinutesExist name) P Q R S p q is = q is

pub unwritten_more : (fault : Fault) (P Q R S : Type 0) → (P → R) → (Q → S) → IfUnwritten fault P Q → IfUnwritten fault R S
unwritten_more (Contents met) P Q R S p q is = q is
unwritten_more (Usage met) P Q R S p q is = q is
unwritten_more (Machine met) P Q R S p q is = machine_more met P Q R S p q is

-- memory ran out, or it is this fault
plain_or_memory : (wants : Bool) (fault : Fault) → IsPlain fault → IsPlain (if wants then Machine NoMemory else fault)
plain_or_memory true fault plain = tt
plain_or_memory false fault plain = plain

-- what is told of a text is plain
pub told_plain : {E : Type 0} (told : E → String Global → Fault) (line : List ℕ) (met : E) (fault : Fault) → ((point : String Global) → IsPlain (told met point)) → TellsOf told line met fault → IsPlain fault
told_plain told line met fault plain (inl none) = subst IsPlain (sym none) tt
told_plain told line met fault plain (inr is) = subst IsPlain (sym is.2) (plain is.0)

instance_plain : (file text : List ℕ) (met : ReadFault) (fault : Fault) → IsInstanceFault file text met fault → IsPlain fault
instance_plain file text met fault tells = told_plain fault_of_instance _ met fault (λ point. plain_or_memory (instance.wants_memory met) (Contents (Instance met point)) tt) tells

solution_plain : (file text : List ℕ) (met : SolutionFault) (fault : Fault) → IsSolutionFault file text met fault → IsPlain fault
solution_plain file text met fault tells = told_plain fault_of_solution _ met fault (λ point. plain_or_memory (lacks_memory met) (Contents (Solution met point)) tt) tells

barred_plain : (file text : List ℕ) (met : BarredFault) (fault : Fault) → IsBarredFault file text met fault → IsPlain fault
barred_plain file text met fault tells = told_plain fault_of_barred _ met fault (λ point. plain_or_memory (barred.wants_memory met) (Contents (Barred met point)) tt) tells

blocked_plain : (file text : List ℕ) (met : BlockedFault) (fault : Fault) → IsBlockedFault file text met fault → IsPlain fault
blocked_plain file text met fault tells = told_plain fault_of_blocked _ met fault (λ point. plain_or_memory (blocked.wants_memory met) (Contents (Blocked met point)) tt) tells

input_plain : (name : String Global) (met : InputFault) → IsPlain (fault_of_input name met)
input_plain name input.Read = tt
input_plain name input.TooLong = tt
input_plain name input.NoMemory = tt

pub file_plain : (held : Held) (name : String Global) (fault : Fault) → IsOfFile held name fault → IsPlain fault
file_plain held name fault is = subst IsPlain (sym is.is) (input_plain name is.met)

-- memory may run out for any file
pub memory_of_file : (held : Held) (name : String Global) (fault : Fault) → fault ≡ Machine NoMemory → IsOfFile held name fault
memory_of_file held name fault is = record { met = input.NoMemory; is = is; cause = tt }

module _ {E : Type 0} (Tells : List ℕ → E → Fault → Type 0) (Meets : List ℕ → E → Type 0) (IsNone : List ℕ → Type 0) (is_plain : (text : List ℕ) (met : E) (fault : Fault) → Tells text met fault → IsPlain fault) where
  text_plain : (text : List ℕ) (fault : Fault) → IsNoText Tells Meets IsNone text fault → IsPlain fault
  text_plain text fault none = is_plain text none.met fault none.tells

  pub file_text_plain : (held : Held) (name : String Global) (fault : Fault) → IsOfText (IsNoText Tells Meets IsNone) held name fault → IsPlain fault
  file_text_plain held name fault (inl file) = file_plain held name fault file
  file_text_plain held name fault (inr none) = text_plain none.0 fault none.2

instance_file_plain : (held : Held) (name : String Global) (fault : Fault) → IsOfInstance held name fault → IsPlain fault
instance_file_plain held name fault is = file_text_plain (IsInstanceFault (string_bytes name)) _ _ (instance_plain (string_bytes name)) held name fault is

pub barred_file_plain : (held : Held) (read : Problem) (name : Option (String Global)) (fault : Fault) → IsOfBarred held read name fault → IsPlain fault
barred_file_plain held read None fault is = absurd is
barred_file_plain held read (Some name) fault is = file_text_plain (IsBarredFault (string_bytes name)) _ _ (barred_plain (string_bytes name)) held name fault is

pub blocked_file_plain : (held : Held) (read : Problem) (name : Option (String Global)) (fault : Fault) → IsOfBlocked held read name fault → IsPlain fault
blocked_file_plain held read None fault is = absurd is
blocked_file_plain held read (Some name) fault is = file_text_plain (IsBlockedFault (string_bytes name)) _ _ (blocked_plain (string_bytes name)) held name fault is

sides_plain : (held : Held) (read : Problem) (sides : Sides) (fault : Fault) → IsOfSides held read sides fault → IsPlain fault
sides_plain held read sides fault is = ⊎_elim (λ bars. barred_file_plain held read sides.barred fault bars) (λ behind. blocked_file_plain held behind.0 sides.blocked fault behind.2) is

pub solution_file_plain : (name : String Global) (held : Held) (problem : Problem) (fault : Fault) → IsOfSolution name held problem fault → IsPlain fault
solution_file_plain name held problem fault is = file_text_plain (IsSolutionFault (string_bytes name)) _ _ (solution_plain (string_bytes name)) held name fault is

pub start_plain : (start : Option (String Global)) (held : Held) (problem : Problem) (fault : Fault) → IsOfStart start held problem fault → IsPlain fault
start_plain None held problem fault is = absurd is
start_plain (Some name) held problem fault is = solution_file_plain name held problem fault is

pub instance_in_plain : (held : Held) (instance : String Global) (sides : Sides) (fault : Fault) → IsOfInstanceIn held instance sides fault → IsPlain fault
instance_in_plain held instance sides fault is = ⊎_elim (λ none. instance_file_plain held instance fault none) (λ beside. sides_plain held beside.0 sides fault beside.2) is

-- ---- faults that are passed on

pub on_ok_weaker : {T E : Type 0} (r : Result T E) (P Q : Type 0) → (P → Q) → OnOk r P → OnOk r Q
on_ok_weaker (Ok x) P Q more holds = more holds
on_ok_weaker (Err e) P Q more holds = tt

-- what holds of a fault holds after it is passed on
pub passed_on : {T : Type 0} (r : Result T Fault) (fault : Fault) (P : Fault → Type 0) → IsErrAnd r (λ told. told ≡ fault) → P fault → IfErr r P
passed_on (Ok x) fault P same holds = tt
passed_on (Err told) fault P same holds = subst P (sym same) holds

-- a fault of what comes after the instance
pub behind_instance : (IsOther : Held → Problem → Fault → Type 0) (held later : Held) (instance : String Global) (sides : Sides) (problem : Problem) (fault : Fault)
    → IsInstanceIn held instance sides problem → later ≡ held → IsOther later problem fault → IsOfInstanceOr IsOther held instance sides fault
behind_instance IsOther held later instance sides problem fault is same other = inr (problem, is, subst (λ (known : Held). IsOther known problem fault) same other)

-- the bytes that were read are those of the file
pub told_of : (held : Option (List ℕ)) (bytes items : List ℕ) → bytes ≡ items → IfSome held (λ text. items ≡ text) → IfSome held (λ text. bytes ≡ text)
told_of None bytes items same all = tt
told_of (Some text) bytes items same all = same ∙ all

-- a text that parsing refused is that of the file
pub of_text : (IsNo : List ℕ → Fault → Type 0) (held : Held) (name : String Global) (fault : Fault) (bytes items : List ℕ) → IsNo bytes fault → bytes ≡ items → Holds held name (λ text. items ≡ text) → IsOfText IsNo held name fault
of_text IsNo held name fault bytes items none copied all = inr (bytes, told_of (held (string_bytes name)) bytes items copied all, none)

pub passed_plain : {T : Type 0} (r : Result T Fault) (fault : Fault) (P U : Type 0) (Q : Fault → Type 0) → IsErrAnd r (λ told. told ≡ fault) → IsPlain fault → Q fault → U → IfErr r (λ told. IfUnwritten told P (Q told × U))
passed_plain (Ok x) fault P U Q same plain q u = tt
passed_plain (Err told) fault P U Q same plain q u = subst (λ other. IfUnwritten other P (Q other × U)) (sym same) (plain_written fault P (Q fault × U) plain (q, u))
