-- Words spell one journal, or break its grammar at one word.
use Rattle.std.proofs.Common.{◌≡◌, ◌⊎◌, ◌∙◌, ℕ, List, Ok, Err, inl, inr, sym}
use Rattle.ctt_text.proofs.FormLaws.{answer_breaks, breaks_answer, breaks_once, answered}
use Rattle.ctt_problem.proofs.ResultLemmas.{ok_same, ok_is_err}
use Rattle.ctt_core.specs.declared.journal.JournalEntry.{JournalEntry}
use Rattle.ctt_script.specs.declared.journal_fault.JournalFault.{JournalFault}
use Rattle.ctt_script.specs.JournalWords.{missing_word}
use Rattle.ctt_script.specs.Journals.{journal_form}
use Rattle.ctt_script.specs.JournalText.{JournalSpells, JournalBreaksAt, journal_answer}
use Rattle.ctt_script.specs.JournalLaws.{SpellsOneJournal, JournalFailsWhereBroken, JournalBreaksOnce, JournalSpellsOrBreaks}
use Rattle.ctt_script.proofs.JournalReading.{reads_journals}

pub spells_one_journal : SpellsOneJournal
spells_one_journal i words entries others s s' = ok_same {F = JournalFault} entries others (sym ((reads_journals i words entries).1 s) ∙ (reads_journals i words others).1 s')

pub journal_fails_where_broken : JournalFailsWhereBroken
journal_fails_where_broken i words e = (answer_breaks missing_word (journal_form i) words e, λ k b. breaks_answer missing_word (journal_form i) words k e b)

pub journal_breaks_once : JournalBreaksOnce
journal_breaks_once i words = breaks_once missing_word (journal_form i) words

pub journal_spells_or_breaks : JournalSpellsOrBreaks
journal_spells_or_breaks i words =
    (by (answered missing_word (journal_form i) words), λ entries k e s b. ok_is_err ⊥ entries e (sym ((reads_journals i words entries).1 s) ∙ breaks_answer missing_word (journal_form i) words k e b))
  where
    by : ((entries : List JournalEntry) × (journal_answer i words ≡ Ok entries)) ⊎ ((e : JournalFault) × (journal_answer i words ≡ Err e)) → ((entries : List JournalEntry) × JournalSpells i words entries) ⊎ ((k : ℕ) × (fault : JournalFault) × JournalBreaksAt i words k fault)
    by (inl x) = inl (x.0, (reads_journals i words x.0).0 x.1)
    by (inr x) = let b = answer_breaks missing_word (journal_form i) words x.0 x.1 in inr (b.0, x.0, b.1)
