-- Words as they are shown.
use Rattle.std.proofs.Common.{◌≡◌, ◌++◌, ◌∙◌, ◌-◌, ℕ, Bool, true, false, List, [], IsUtf8, append-nil, ap, arith, codes, encode_utf8, flat_map, chars, length, refl}
use Rattle.std.specs.Fmt.{char_count, format_spec, padded, take_chars}
use Rattle.std.specs.Str.{is_utf8}
use Rattle.std.proofs.StrCases.{chars_of_empty}
use Rattle.std.proofs.lemmas.Str.{IsUtf8-from_is_utf8, chars_past_char}
use Rattle.ctt_text.specs.Entries.{closure_entry, instance_entry, lecture_entry, pair_entry}
use Rattle.ctt_text.specs.FaultCodes.{barred_at, barred_code, blocked_at, blocked_code, instance_at, instance_code, solution_at, solution_code}
use Rattle.ctt_text.specs.Points.{barred_point, barred_sentence, blocked_point, blocked_sentence, instance_point, instance_sentence, is_control, printable, printable_char, solution_point, solution_sentence, word_point}
use Rattle.ctt_text.specs.Words.{words}
use Rattle.ctt_text.specs.declared.fault.BarredFault.{BarredFault}
use Rattle.ctt_text.specs.declared.fault.BarredFault.TheVariants as barred
use Rattle.ctt_text.specs.declared.fault.BlockedFault.{BlockedFault}
use Rattle.ctt_text.specs.declared.fault.BlockedFault.TheVariants as blocked
use Rattle.ctt_text.specs.declared.fault.ReadFault.{ReadFault}
use Rattle.ctt_text.specs.declared.fault.ReadFault.TheVariants as instance
use Rattle.ctt_text.specs.declared.fault.SolutionFault.{SolutionFault}
use Rattle.ctt_text.specs.declared.fault.SolutionFault.TheVariants as solution

pub not_utf8 : (word : List ℕ) → ¬ IsUtf8 word → is_utf8 word ≡ false
not_utf8 word not = by (is_utf8 word) refl
  where
    by : (x : Bool) → is_utf8 word ≡ x → is_utf8 word ≡ false
    by true e = absurd (not (IsUtf8-from_is_utf8 word e))
    by false e = e

pub control_is : (c : ℕ) → is_control c ≡ true → printable_char c ≡ codes "?"
unfolding printable_char
control_is c is = rw is refl

pub other_is : (c : ℕ) → is_control c ≡ false → printable_char c ≡ encode_utf8 c
unfolding printable_char
other_is c is = rw is refl

-- a text that is written character by character
pub printable_step : (text rest : List ℕ) (c : ℕ) → IsUtf8 text → text ≡ encode_utf8 c ++ rest → printable text ≡ printable_char c ++ printable rest
unfolding printable
printable_step text rest c utf8 parts = ap (λ cs. flat_map printable_char cs) (chars_past_char text rest c utf8 parts)

pub printable_empty : (text : List ℕ) → length text ≡ 0 → printable text ≡ []
unfolding printable
printable_empty text none = ap (λ cs. flat_map printable_char cs) (chars_of_empty text none)

-- with no width, a text is cut to its precision
pub padded_cut : (n : ℕ) (text : List ℕ) → padded (format_spec 32 0 0 0 n) text ≡ take_chars n text
unfolding padded
padded_cut n text =
    let none : 0 - char_count (take_chars n text) ≡ 0 = omega arith in
    rw none (append-nil (take_chars n text))

-- a fault of a word
pub not_bytes : (file text : List ℕ) (fault : ReadFault) → ((at : ℕ) → fault ≡ instance.NotText at → ⊥) → instance_point file text fault ≡ word_point file text (instance_code fault) (instance_at fault) (instance_entry (words text) (instance_at fault) ++ instance_sentence (words text) fault)
not_bytes file text (instance.NotText at) not = absurd (not at refl)
not_bytes file text (instance.Missing at) not = refl
not_bytes file text (instance.Expected at) not = refl
not_bytes file text (instance.BadNumber at) not = refl
not_bytes file text (instance.TooLarge at) not = refl
not_bytes file text (instance.RepeatedName at) not = refl
not_bytes file text (instance.UnknownCourse at) not = refl
not_bytes file text (instance.DayOut at) not = refl
not_bytes file text (instance.PeriodOut at) not = refl
not_bytes file text instance.NoMemory not = refl

pub solution_not_bytes : (file text : List ℕ) (fault : SolutionFault) → ((at : ℕ) → fault ≡ solution.NotText at → ⊥) → solution_point file text fault ≡ word_point file text (solution_code fault) (solution_at fault) (lecture_entry (solution_at fault) ++ solution_sentence (words text) fault)
solution_not_bytes file text (solution.NotText at) not = absurd (not at refl)
solution_not_bytes file text (solution.Cut at) not = refl
solution_not_bytes file text (solution.UnknownCourse at) not = refl
solution_not_bytes file text (solution.UnknownRoom at) not = refl
solution_not_bytes file text (solution.BadNumber at) not = refl
solution_not_bytes file text (solution.DayOut at) not = refl
solution_not_bytes file text (solution.PeriodOut at) not = refl
solution_not_bytes file text (solution.Repeated at) not = refl
solution_not_bytes file text solution.NoMemory not = refl

pub barred_not_bytes : (file text : List ℕ) (fault : BarredFault) → ((at : ℕ) → fault ≡ barred.NotText at → ⊥) → barred_point file text fault ≡ word_point file text (barred_code fault) (barred_at fault) (pair_entry (words text) (barred_at fault) ++ barred_sentence (words text) fault)
barred_not_bytes file text (barred.NotText at) not = absurd (not at refl)
barred_not_bytes file text (barred.Missing at) not = refl
barred_not_bytes file text (barred.Expected at) not = refl
barred_not_bytes file text (barred.BadNumber at) not = refl
barred_not_bytes file text (barred.TooLarge at) not = refl
barred_not_bytes file text (barred.UnknownCourse at) not = refl
barred_not_bytes file text (barred.UnknownRoom at) not = refl
barred_not_bytes file text barred.NoMemory not = refl

pub blocked_not_bytes : (file text : List ℕ) (fault : BlockedFault) → ((at : ℕ) → fault ≡ blocked.NotText at → ⊥) → blocked_point file text fault ≡ word_point file text (blocked_code fault) (blocked_at fault) (closure_entry (words text) (blocked_at fault) ++ blocked_sentence (words text) fault)
blocked_not_bytes file text (blocked.NotText at) not = absurd (not at refl)
blocked_not_bytes file text (blocked.Missing at) not = refl
blocked_not_bytes file text (blocked.Expected at) not = refl
blocked_not_bytes file text (blocked.BadNumber at) not = refl
blocked_not_bytes file text (blocked.TooLarge at) not = refl
blocked_not_bytes file text (blocked.UnknownName at) not = refl
blocked_not_bytes file text (blocked.DayOut at) not = refl
blocked_not_bytes file text (blocked.PeriodOut at) not = refl
blocked_not_bytes file text blocked.NoMemory not = refl
