use Rattle.ctt_text.proofs.SolutionLaws.{solution_breaks_once}
use Rattle.ctt_text.proofs.text_laws.solution_breaks_once.Goals as goal

pub returns : goal.returns
returns c = solution_breaks_once
