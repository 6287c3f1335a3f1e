use Rattle.ctt_script.proofs.JournalLaws.{journal_fails_where_broken}
use Rattle.ctt_script.proofs.journal_laws.journal_fails_where_broken.Goals as goal

pub returns : goal.returns
returns c = journal_fails_where_broken
