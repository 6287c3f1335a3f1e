use Rattle.ctt_core.proofs.AuditLemmas.{agrees_if}
use Rattle.ctt_core.proofs.auditing.audit.Goals as goal

pub returns-clause-agrees : goal.returns-clause-agrees
returns-clause-agrees g c = agrees_if c.args.instance.now c.args.lectures.now c.args.entries.now c.found_on.result c.found_on.ensures
