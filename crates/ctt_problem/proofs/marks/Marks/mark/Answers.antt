use Rattle.ctt_problem.proofs.MarkLemmas.{no_mark, with_mark, with_mark_are}
use Rattle.ctt_problem.proofs.marks.Marks.mark.Goals as goal

pub invariant_of-self : goal.invariant_of-self
invariant_of-self c = with_mark_are c.self.inside.words c.args.number c.self.invariant c.requires

pub returns-clause-fresh : goal.returns-clause-fresh
returns-clause-fresh c = rw (← c.self.view_is) (no_mark c.self.inside.words c.args.number c.self.invariant.size c.requires)

pub returns-clause-marked : goal.returns-clause-marked
returns-clause-marked c = rw (← c.self.view_is) (with_mark c.self.inside.words c.args.number c.self.invariant.size c.requires)
