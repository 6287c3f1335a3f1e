use Rattle.ctt_text.proofs.InstanceFacts.{spelled_is_problem}
use Rattle.ctt_text.proofs.text_laws.spelled_is_problem.Goals as goal

pub returns : goal.returns
returns c = spelled_is_problem
