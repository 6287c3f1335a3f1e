-- The faults of a journal: that of what is wrong with a word, and where and why it is refused.
use Rattle.std.specs.Prelude.{ℕ, List, codes}
use Rattle.ctt_text.specs.Points.{about, byte_point, word_point}
use Rattle.ctt_text.specs.Words.{words}
use Rattle.ctt_text.specs.declared.text_fault.WordFault.{WordFault}
use Rattle.ctt_text.specs.declared.text_fault.WordFault.TheVariants as word
use Rattle.ctt_script.specs.declared.journal_fault.JournalFault.{JournalFault}
use Rattle.ctt_script.specs.declared.journal_fault.JournalFault.TheVariants.{NotText, Missing, BadWord, NoMemory}

-- a word that is missing, or that is not allowed in its place
abbrev pub fault_of_word : WordFault → ℕ → JournalFault
fault_of_word word.Missing = Missing
fault_of_word _ = BadWord

-- the code of the fault, and the word or byte that it carries
abbrev pub journal_told : JournalFault → List ℕ × ℕ
journal_told (NotText at) = (codes "J1", at)
journal_told (Missing at) = (codes "J2", at)
journal_told (BadWord at) = (codes "J3", at)
journal_told NoMemory = (codes "memory", 0)

abbrev pub journal_sentence : List (List ℕ) → JournalFault → List ℕ
journal_sentence words (Missing n) = codes "the words end before END."
journal_sentence words (BadWord n) = about (codes "not valid here: ") words n
journal_sentence words _ = codes "no memory"

abbrev pub journal_point : List ℕ → List ℕ → JournalFault → List ℕ
journal_point file text (NotText at) = byte_point file text (codes "J1") at
journal_point file text fault = word_point file text (journal_told fault).0 (journal_told fault).1 (journal_sentence (words text) fault)
