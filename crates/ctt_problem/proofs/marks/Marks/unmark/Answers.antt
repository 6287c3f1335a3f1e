use Rattle.std.proofs.Common.{ap, ◌∙◌, not, ◌≡◌, Bool, true, false, refl}
use Rattle.ctt_problem.specs.Marks.{is_marked}
use Rattle.ctt_problem.proofs.MarkLemmas.{no_mark, without_mark, without_mark_are}
use Rattle.ctt_problem.proofs.marks.Marks.unmark.Goals as goal

not_not : (b : Bool) → not (not b) ≡ b
not_not true = refl
not_not false = refl

pub invariant_of-self : goal.invariant_of-self
invariant_of-self c = without_mark_are c.self.inside.words c.args.number c.self.invariant c.requires

pub returns-clause-was : goal.returns-clause-was
returns-clause-was c = rw (← c.self.view_is) (ap not (no_mark c.self.inside.words c.args.number c.self.invariant.size c.requires) ∙ not_not (is_marked c.self.inside.words c.args.number))

pub returns-clause-marked : goal.returns-clause-marked
returns-clause-marked c = rw (← c.self.view_is) (without_mark c.self.inside.words c.args.number c.self.invariant.size c.requires)
