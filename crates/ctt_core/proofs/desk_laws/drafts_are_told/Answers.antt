use Rattle.ctt_core.proofs.OpenDraftLemmas as Lemmas
use Rattle.ctt_core.proofs.desk_laws.drafts_are_told.Goals as goal

pub returns : goal.returns
returns c = record { drafts = Lemmas.drafts_are_told; accepted = Lemmas.accepted_are_told }
