use Rattle.std.proofs.Common.{◌++◌, ap}
use Rattle.ctt_log.specs.Minutes.{last_history}
use Rattle.ctt_log.proofs.log_writer.begins.Goals as goal

pub returns-in-None-clause-begins : goal.returns-in-None-clause-begins
returns-in-None-clause-begins g c = λ _. (c.args.receipt.now, ap (λ o. last_history o ++ c.args.receipt.now) c.in-None.is)
