use Rattle.std.proofs.Common.{subst}
use mathlib.Core.List.{IsPrefix}
use Rattle.ctt_log.specs.Minutes.{LogValue}
use Rattle.ctt_log.proofs.MinutesLemmas.{none_seen}
use Rattle.ctt_log.proofs.log_writer.LogWriter.show.Goals as goal

pub returns-in-None : goal.returns-in-None
returns-in-None g c = subst (λ (p : LogValue). IsPrefix p.history c.args.planner.now.front) c.self.view_is (none_seen c.self.inside.last c.args.planner.now.front c.in-None.is)
