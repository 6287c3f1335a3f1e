use Rattle.ctt_text.proofs.SolutionLaws.{solution_spells_or_breaks}
use Rattle.ctt_text.proofs.text_laws.solution_spells_or_breaks.Goals as goal

pub returns : goal.returns
returns c = solution_spells_or_breaks
