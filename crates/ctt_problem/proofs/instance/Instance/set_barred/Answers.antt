use Rattle.ctt_problem.proofs.SideTables.{tables_instance}
use Rattle.ctt_problem.proofs.instance.Instance.set_barred.Goals as goal

pub invariant_of-self : goal.invariant_of-self
invariant_of-self c =
    let is = c.self.invariant in
    tables_instance c.self.inside c.self.inside.closed c.args.table c.self.inside.blocked is (record {
      closed = is.closed;
      barred = rw (← c.self.view_is) at c.requires;
      blocked = is.blocked;
    })
