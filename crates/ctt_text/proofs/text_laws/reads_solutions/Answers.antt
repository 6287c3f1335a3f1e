use Rattle.ctt_text.proofs.SolutionLaws.{reads_solutions}
use Rattle.ctt_text.proofs.text_laws.reads_solutions.Goals as goal

pub returns : goal.returns
returns c = reads_solutions
