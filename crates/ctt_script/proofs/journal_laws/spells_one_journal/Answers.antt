use Rattle.ctt_script.proofs.JournalLaws.{spells_one_journal}
use Rattle.ctt_script.proofs.journal_laws.spells_one_journal.Goals as goal

pub returns : goal.returns
returns c = spells_one_journal
