-- Why a verdict is not shown.
use Rattle.std.proofs.Common.{◌≡◌, ◌⊎◌, List, inl, inr}
use Rattle.ctt_problem.specs.Problem.{Problem}
use Rattle.ctt_problem.specs.declared.placed.Placed.{Placed}
use Rattle.ctt_core.specs.Audits.{IsVerdict}
use Rattle.ctt_core.specs.declared.auditing.Verdict.{Verdict}
use Rattle.ctt_core.specs.declared.auditing.Verdict.TheVariants as found
use Rattle.ctt_core.specs.declared.journal.JournalEntry.{JournalEntry}
use Rattle.ctt_files.specs.declared.fault.Fault.{Fault}
use Rattle.ctt_files.specs.declared.fault.Fault.TheVariants.{Machine}
use Rattle.ctt_files.specs.declared.fault.MachineFault.TheVariants.{NoMemory}
use Rattle.ctt_commands.specs.Refusals.{IsNoOpening}
use Rattle.ctt_commands.specs.Verdicts.{IsVerdictFault}

-- a verdict that is not shown is that the opening is refused, or memory ran out
pub verdict_refused : (i : Problem) (ls : List Placed) (h : List JournalEntry) (verdict : Verdict) (fault : Fault) → IsVerdict i ls h verdict → IsVerdictFault i verdict fault → IsNoOpening i ls fault ⊎ (fault ≡ Machine NoMemory)
verdict_refused i ls h found.Agrees fault is told = inr told
verdict_refused i ls h (found.Differs entry call) fault is told = inr told
verdict_refused i ls h (found.BadOpening at why) fault is told = inl (at, why, is, told)
