use Rattle.ctt_commands.proofs.MendLemmas as Lemmas
use Rattle.ctt_commands.proofs.mend_laws.mended_opens.Goals as goal

pub returns : goal.returns
returns c = Lemmas.mended_opens
