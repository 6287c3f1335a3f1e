-- The whole entries of minutes.
use Rattle.std.proofs.Common.{suc, ◌<◌, ◌≤◌, ◌-◌, nat_lt, length-drop, ◌∷◌, length, take, drop, get_or, subst, arith, append_assoc, take-append-drop, Bool, ◌≡◌, ◌∙◌, inl, inr, ℕ, ◌+◌, List, [], ◌++◌, flat_map, Err, refl, sym, ap, append-nil}
use Rattle.std.specs.List.{AllByRecursion as Each}
use Rattle.std.specs.Str.{IsCharBoundary, IsUtf8}
use Rattle.std.proofs.lemmas.Bool.Decides.{nat_tests}
use Rattle.std.proofs.lemmas.Str.{IsCharBoundary-after_ascii, IsUtf8-nil, IsUtf8-take}
use mathlib.Core.List.{IsPrefix}
use Rattle.ctt_text.specs.Forms.{◌>>=◌, read}
use Rattle.ctt_text.specs.Left.{Left}
use Rattle.ctt_problem.specs.Named.{IsNamed}
use Rattle.ctt_text.specs.Places.{fixed, known, one}
use Rattle.ctt_problem.specs.Problem.{IsProblem, Problem}
use Rattle.ctt_text.specs.Words.{words}
use Rattle.ctt_problem.proofs.TimetableLemmas.{Each-map}
use Rattle.ctt_core.specs.declared.journal.JournalEntry.{JournalEntry}
use Rattle.ctt_core.specs.Entries.{EntryFits}
use Rattle.ctt_script.specs.Entries.{CanBeWritten, IsShort}
use Rattle.ctt_script.specs.Journals.{entry_form}
use Rattle.ctt_script.specs.JournalWords.{missing_word, parses}
use Rattle.ctt_script.specs.WrittenText.{entry_text}
use Rattle.ctt_script.specs.WrittenWords.{entry_words}
use Rattle.ctt_script.specs.declared.journal_fault.JournalFault.{JournalFault}
use Rattle.ctt_script.specs.declared.journal_fault.JournalFault.TheVariants.{BadWord, Missing, NoMemory, NotText}
use Rattle.ctt_script.proofs.EntryLemmas.{yields_entry}
use Rattle.ctt_script.proofs.WrittenText.{entry_part, parts_words}
use Rattle.ctt_script.proofs.WrittenWords.{entry_fills}
use Rattle.ctt_log.specs.Recovery.{AreEntries, EndsLine, IsEntryFault, IsLinesFault, IsReadOf, has_byte}
use Rattle.ctt_log.proofs.CutLemmas.{AreCut, blocks_hold, fault_of_cut, read_of_cut}
use Rattle.ctt_log.proofs.PartLemmas.{words_apart}

-- entries that were parsed can be written
pub entries_hold : (i : Problem) → IsProblem i → (left rest : Left) (es : List JournalEntry) → AreEntries i left es rest → Each (CanBeWritten i) es
entries_hold i is left rest es are = blocks_hold missing_word (entry_form i) (CanBeWritten i) (yields_entry i is) left rest es are

pub entries_fit : (i : Problem) (es : List JournalEntry) → Each (CanBeWritten i) es → Each (EntryFits i) es
entries_fit i es are = Each-map (CanBeWritten i) (EntryFits i) (λ e both. both.0) es are

pub entries_short : (i : Problem) (es : List JournalEntry) → Each (CanBeWritten i) es → Each IsShort es
entries_short i es are = Each-map (CanBeWritten i) IsShort (λ e both. both.1) es are

-- if no word is left, an entry lacks its first
pub lacks_first : (i : Problem) (n : ℕ) → read missing_word (entry_form i) [] n ≡ Err (missing_word n)
unfolding read entry_form ◌>>=◌ fixed known one
lacks_first i n = refl

-- whole lines separate their words from those after them
pub lines_apart : (lines rest : List ℕ) → EndsLine lines → words (lines ++ rest) ≡ words lines ++ words rest
unfolding words
lines_apart lines rest (inl none) = ap (λ l. words (l ++ rest)) none ∙ sym (ap (λ l. words l ++ words rest) none)
lines_apart lines rest (inr ended) = ap (λ l. words (l ++ rest)) ended.1 ∙ words_apart ended.0 rest ∙ sym (ap (λ l. words l ++ words rest) ended.1)

-- ---- whole lines of a text are UTF-8 too

take_lines : (front behind : List ℕ) → take (suc (length front)) ((front ++ 10 ∷ []) ++ behind) ≡ front ++ 10 ∷ []
take_lines [] behind = refl
take_lines (b ∷ front) behind = ap (λ bs. b ∷ bs) (take_lines front behind)

end_at : (front behind : List ℕ) → get_or ((front ++ 10 ∷ []) ++ behind) (length front) 0 ≡ 10
end_at [] behind = refl
end_at (b ∷ front) behind = end_at front behind

end_within : (front behind : List ℕ) → length front < length ((front ++ 10 ∷ []) ++ behind)
end_within [] behind = omega arith
end_within (b ∷ front) behind = omega (arith, end_within front behind)

ended_is_text : (front behind : List ℕ) → IsUtf8 ((front ++ 10 ∷ []) ++ behind) → IsUtf8 (front ++ 10 ∷ [])
ended_is_text front behind is =
    let text : List ℕ = (front ++ 10 ∷ []) ++ behind in
    let next : length front + 1 ≡ suc (length front) = omega arith in
    let small : get_or text (length front) 0 < 128 = omega (arith, end_at front behind) in
    let parts : IsCharBoundary text (suc (length front)) = subst (IsCharBoundary text) next (IsCharBoundary-after_ascii text (length front) is (end_within front behind) small) in
    subst IsUtf8 (take_lines front behind) (IsUtf8-take text (suc (length front)) is parts)

pub lines_are_text : (lines behind all : List ℕ) → EndsLine lines → IsUtf8 all → all ≡ lines ++ behind → IsUtf8 lines
lines_are_text lines behind all (inl none) is same = subst IsUtf8 (sym none) (IsUtf8-nil)
lines_are_text lines behind all (inr ended) is same = subst IsUtf8 (sym ended.1) (ended_is_text ended.0 behind (subst IsUtf8 (same ∙ ap (λ l. l ++ behind) ended.1) is))

-- what follows the whole lines of a text that is cut
pub cut_all : (all text lines tail : List ℕ) (n : ℕ) → text ≡ take n all → text ≡ lines ++ tail → all ≡ lines ++ (tail ++ drop n all)
cut_all all text lines tail n cut parts = sym (take-append-drop n all) ∙ ap (λ t. t ++ drop n all) (sym cut ∙ parts) ∙ append_assoc lines tail (drop n all)

-- bytes are left after the first n if there are more than n
pub more_than : (n : ℕ) (bytes : List ℕ) → nat_lt n (length bytes) ≡ has_byte (drop n bytes)
more_than n bytes = by (drop n bytes) (length-drop n bytes)
  where
    by : (rest : List ℕ) → length rest ≡ length bytes - n → nat_lt n (length bytes) ≡ has_byte rest
    by [] long = (let least : length bytes ≤ n = omega (arith, long) in grind (arith, nat_tests))
    by (b ∷ rest) long = (let more : n < length bytes = omega (arith, long) in grind (arith, nat_tests))

-- ---- minutes that are cut

module _ (i : Problem) (is : IsProblem i) (named : IsNamed i) where
  -- the words of the text of entries
  text_words : (es : List JournalEntry) → Each (CanBeWritten i) es → words (flat_map (entry_text i) es) ≡ flat_map (entry_words i) es
  unfolding words
  text_words es fit =
      ap words (sym (append-nil (flat_map (entry_text i) es)))
      ∙ parts_words (CanBeWritten i) (entry_text i) (entry_words i) (entry_part i is named) es fit []
      ∙ append-nil (flat_map (entry_words i) es)

  -- the words of whole lines at the beginning of the text of entries are cut off from those after
  -- them
  pub lines_are_cut : (es : List JournalEntry) (lines rest : List ℕ) → Each (CanBeWritten i) es → flat_map (entry_text i) es ≡ lines ++ rest → EndsLine lines
      → AreCut missing_word (entry_form i) (entry_words i) (CanBeWritten i) (entry_fills i is named) (lacks_first i) es (words lines) (words rest)
  lines_are_cut es lines rest fit all ends = (fit, sym (lines_apart lines rest ends) ∙ ap words (sym all) ∙ text_words es fit)

  -- so the entries that are parsed from them are the first of those that were written
  pub first_entries : (es bs : List JournalEntry) (lines behind : List ℕ) (rest : Left) → Each (CanBeWritten i) es → flat_map (entry_text i) es ≡ lines ++ behind → EndsLine lines
      → AreEntries i (record { words = words lines; next = 1 }) bs rest → (more : List JournalEntry) × (es ≡ bs ++ more)
  first_entries es bs lines behind rest fit all ends are =
      let r = read_of_cut missing_word (entry_form i) (entry_words i) (CanBeWritten i) (entry_fills i is named) (lacks_first i) es bs (record { words = words lines; next = 1 }) rest (words behind)
      (lines_are_cut es lines behind fit all ends) are in
      (r.0, r.1)

  -- a fault after them is that of a missing word
  pub only_missing : (es bs : List JournalEntry) (lines behind : List ℕ) (rest : Left) (fault : JournalFault) → Each (CanBeWritten i) es → flat_map (entry_text i) es ≡ lines ++ behind → EndsLine lines
      → AreEntries i (record { words = words lines; next = 1 }) bs rest → parses (entry_form i) rest ≡ Err fault → (k : ℕ) × (fault ≡ Missing k)
  only_missing es bs lines behind rest fault fit all ends are is_fault =
      let r = read_of_cut missing_word (entry_form i) (entry_words i) (CanBeWritten i) (entry_fills i is named) (lacks_first i) es bs (record { words = words lines; next = 1 }) rest (words behind)
      (lines_are_cut es lines behind fit all ends) are in
      fault_of_cut missing_word (entry_form i) (entry_words i) (CanBeWritten i) (entry_fills i is named) (lacks_first i) r.0 rest (words behind) fault r.2 is_fault

  -- both, for what is parsed from whole lines
  pub read_first : (es bs : List JournalEntry) (lines behind : List ℕ) (lacks : Bool) → Each (CanBeWritten i) es → flat_map (entry_text i) es ≡ lines ++ behind → EndsLine lines → IsReadOf i lines bs lacks → IsPrefix bs es
  read_first es bs lines behind lacks fit all ends r =
      let first = first_entries es bs lines behind r.rest fit all ends r.reads_them in
      (first.0, sym first.1)

  fault_of_entry : (es bs : List JournalEntry) (lines behind : List ℕ) (rest : Left) (fault : JournalFault) → Each (CanBeWritten i) es → flat_map (entry_text i) es ≡ lines ++ behind → EndsLine lines
      → AreEntries i (record { words = words lines; next = 1 }) bs rest → IsEntryFault i rest fault → fault ≡ NoMemory
  fault_of_entry es bs lines behind rest NoMemory fit all ends are cause = refl
  fault_of_entry es bs lines behind rest (NotText byte) fit all ends are cause = absurd cause
  fault_of_entry es bs lines behind rest (Missing k) fit all ends are cause = absurd cause
  fault_of_entry es bs lines behind rest (BadWord k) fit all ends are cause =
      let other = only_missing es bs lines behind rest (BadWord k) fit all ends are cause in
      let same = other.1 in
      cc

  pub only_memory : (es : List JournalEntry) (lines behind : List ℕ) (fault : JournalFault) → Each (CanBeWritten i) es → flat_map (entry_text i) es ≡ lines ++ behind → EndsLine lines → IsLinesFault i lines fault → fault ≡ NoMemory
  only_memory es lines behind fault fit all ends cause = fault_of_entry es cause.0 lines behind cause.1 fault fit all ends cause.2 cause.3
