use Rattle.std.proofs.Common.{ap}
use Rattle.ctt_problem.proofs.BelongingLemmas.{are_members}
use Rattle.ctt_problem.proofs.NumberListLemmas.{list_read}
use Rattle.ctt_problem.proofs.instance.Instance.members.Goals as goal

pub returns-clause-within : goal.returns-clause-within
returns-clause-within c =
    let i = c.args.self.now in
    are_members i c.args.curriculum c.deref.result.now
    (list_read (λ q. q.items) c.self.inside.curricula.items i.curricula c.get.result c.args.curriculum c.index.result.now c.deref.result.now (ap (λ p. p.curricula) c.self.view_is) c.get.ensures c.requires c.index.ensures c.deref.ensures.value)
    (rw (← c.self.view_is) c.self.invariant.problem) c.requires
