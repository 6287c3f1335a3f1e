use Rattle.ctt_edits.proofs.TableLemmas as Lemmas
use Rattle.ctt_edits.proofs.edit_laws.edit_is_table.Goals as goal

pub returns : goal.returns
returns c = Lemmas.edit_is_table
