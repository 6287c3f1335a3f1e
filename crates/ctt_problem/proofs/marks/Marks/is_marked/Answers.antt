use Rattle.ctt_problem.proofs.MarkLemmas.{read_mark}
use Rattle.ctt_problem.proofs.marks.Marks.is_marked.Goals as goal

pub returns-then-number-lt2000-clause-marked : goal.returns-then-number-lt2000-clause-marked
returns-then-number-lt2000-clause-marked c = rw (← c.self.view_is) (read_mark c.self.inside.words c.args.number)
