use Rattle.ctt_edits.proofs.PatternReads as Lemmas
use Rattle.ctt_edits.proofs.edit_laws.pattern_reads.Goals as goal

pub returns : goal.returns
returns c = Lemmas.pattern_reads
