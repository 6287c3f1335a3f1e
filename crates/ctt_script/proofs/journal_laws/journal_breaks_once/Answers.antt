use Rattle.ctt_script.proofs.JournalLaws.{journal_breaks_once}
use Rattle.ctt_script.proofs.journal_laws.journal_breaks_once.Goals as goal

pub returns : goal.returns
returns c = journal_breaks_once
