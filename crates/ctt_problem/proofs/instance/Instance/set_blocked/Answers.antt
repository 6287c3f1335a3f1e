use Rattle.ctt_problem.proofs.SideTables.{tables_instance}
use Rattle.ctt_problem.proofs.instance.Instance.set_blocked.Goals as goal

pub invariant_of-self : goal.invariant_of-self
invariant_of-self c =
    let is = c.self.invariant in
    tables_instance c.self.inside c.args.closed c.self.inside.barred c.args.blocked is (record {
      closed = rw (← c.self.view_is) at c.requires.closed;
      barred = is.barred;
      blocked = rw (← c.self.view_is) at c.requires.blocked;
    })
