-- The faults of openings, scripts and crews: none is of the words, or of the output.
use Rattle.std.proofs.Common.{⊎_elim, inl, inr, sym, subst, ℕ, Option, ◌⊎◌}
use Rattle.std.specs.Global.{Global}
use Rattle.std.specs.declared.string.String.{String}
use Rattle.ctt_problem.specs.Problem.{Problem}
use Rattle.ctt_edits.specs.declared.fault.EditFault.{EditFault}
use Rattle.ctt_files.specs.Texts.{Held}
use Rattle.ctt_files.specs.declared.fault.Fault.{Fault}
use Rattle.ctt_files.proofs.Plain.{IsPlain, start_plain, unwritten_more}
use Rattle.ctt_commands.specs.Faults.{IsOpeningFault, KeptUnless}
use Rattle.ctt_commands.specs.Refusals.{IsOfOpening, IsOfScript, IsOfWork}

pub refused_plain : (problem : Problem) (at : ℕ) (found : EditFault) (fault : Fault) → IsOpeningFault problem at found fault → IsPlain fault
refused_plain problem at found fault is = ⊎_elim (λ line. subst IsPlain (sym line.1) tt) (λ same. subst IsPlain (sym same) tt) is

pub opening_plain : (start : Option (String Global)) (held : Held) (problem : Problem) (fault : Fault) → IsOfOpening start held problem fault → IsPlain fault
opening_plain start held problem fault (inl of_start) = start_plain start held problem fault of_start
opening_plain start held problem fault (inr (lectures, is_start, (at, found, opens, told))) = refused_plain problem at found fault told

pub script_plain : (script : String Global) (start : Option (String Global)) (held : Held) (problem : Problem) (fault : Fault) → IsOfScript script start held problem fault → IsPlain fault
script_plain script start held problem fault (inl (inl same)) = subst IsPlain (sym same) tt
script_plain script start held problem fault (inl (inr same)) = subst IsPlain (sym same) tt
script_plain script start held problem fault (inr (inl opens)) = opening_plain start held problem fault opens
script_plain script start held problem fault (inr (inr (lectures, is_start, (opened, opens, (same, long))))) = subst IsPlain (sym same) tt

pub work_plain : (fault : Fault) → IsOfWork fault → IsPlain fault
work_plain fault is = ⊎_elim (λ same. subst IsPlain (sym same) tt) (λ other. ⊎_elim (λ same. subst IsPlain (sym same) tt) (λ same. subst IsPlain (sym same) tt) other) is

-- weaker claims of unchanged files, and of the cause of a change
pub kept_weaker : (fault : Fault) (S R K L : Type 0) → (S → R) → (K → L) → KeptUnless fault S K → KeptUnless fault R L
kept_weaker fault S R K L more kept is = unwritten_more fault (K ⊎ S) K (L ⊎ R) L (λ either. ⊎_elim (λ same. inl (kept same)) (λ stored. inr (more stored)) either) kept is
