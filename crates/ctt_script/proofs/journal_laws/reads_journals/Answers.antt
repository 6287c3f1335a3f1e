use Rattle.ctt_script.proofs.JournalReading.{reads_journals}
use Rattle.ctt_script.proofs.journal_laws.reads_journals.Goals as goal

pub returns : goal.returns
returns c = reads_journals
