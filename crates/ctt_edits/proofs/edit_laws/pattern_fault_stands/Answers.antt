use Rattle.ctt_edits.proofs.PatternFaults.{pattern_fault_stands}
use Rattle.ctt_edits.proofs.edit_laws.pattern_fault_stands.Goals as goal

pub returns : goal.returns
returns c = pattern_fault_stands
