use Rattle.ctt_text.proofs.SolutionLaws.{solution_fails_where_broken}
use Rattle.ctt_text.proofs.text_laws.solution_fails_where_broken.Goals as goal

pub returns : goal.returns
returns c = solution_fails_where_broken
