use Rattle.ctt_script.proofs.JournalLaws.{journal_spells_or_breaks}
use Rattle.ctt_script.proofs.journal_laws.journal_spells_or_breaks.Goals as goal

pub returns : goal.returns
returns c = journal_spells_or_breaks
