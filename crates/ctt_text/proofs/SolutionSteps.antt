-- Parsing the text of a solution step by step, as the code does.
use Rattle.std.proofs.Common.{◌≡◌, ℕ, suc, ◌<◌, List, [], ◌∷◌, ◌++◌, length, cond, Option, Some, None, Result, Ok, refl, ap, ◌∙◌, arith}
use Rattle.std.specs.Prelude.{nat_lt}
use Rattle.ctt_text.specs.Left.{Left}
use Rattle.ctt_text.specs.declared.fault.SolutionFault.{SolutionFault}
use Rattle.ctt_text.specs.declared.fault.SolutionFault.TheVariants.{BadNumber, PeriodOut, Repeated}
use Rattle.ctt_problem.specs.declared.placed.Placed.{Placed}
use Rattle.ctt_text.specs.Places.{number}
use Rattle.ctt_problem.specs.Problem.{Problem, slot_of}
use Rattle.ctt_problem.specs.Timetable.{has_lecture}
use Rattle.ctt_text.specs.Forms.{◌>>=◌, times}
use Rattle.ctt_text.specs.Reading.{Fails, reading}
use Rattle.ctt_text.specs.SolutionPlaces.{free_slot, entry, begun, cut, lacks_memory}
use Rattle.ctt_text.specs.SolutionText.{EntryWords, spelled_entry}
use Rattle.ctt_text.proofs.FormLaws.{read_fills}
use Rattle.ctt_text.proofs.SolutionLaws.{entry_taken}
use Rattle.ctt_text.proofs.Steps.{and_then, judged, read_then, read_done, fails_there, read_number_by}

-- the rule of a period that is a number
abbrev pub free_judged : Problem → List Placed → ℕ → ℕ → ℕ → Option (ℕ → SolutionFault)
free_judged i so_far course day n = cond (nat_lt n i.periods) (cond (has_lecture course (slot_of i day n) so_far) (Some Repeated) None) (Some PeriodOut)

-- parsing a period, given the parsed number
pub read_free_slot : (i : Problem) (so_far : List Placed) (course day : ℕ) (left : Left)
    → reading cut (free_slot i so_far course day) left ≡ and_then (reading cut (number BadNumber) left) (λ n after. judged (free_judged i so_far course day n) left.next (slot_of i day n) after)
unfolding free_slot
read_free_slot i so_far course day left = read_number_by cut BadNumber (free_judged i so_far course day) (slot_of i day) left

-- the four words of a parsed entry
four_words : (i : Problem) (s : List Placed) (left : Left) (t : List Placed) (after : Left) → reading cut (entry i s) left ≡ Ok (t, after) → (w : EntryWords) × (left.words ≡ spelled_entry w ++ after.words)
four_words i s left t after h =
    let r = read_fills cut (entry i s) left.words left.next (t, after) h in
    let e = entry_taken i s r.front t r.fills in
    (e.given, r.all ∙ ap (λ ws. ws ++ after.words) e.all)

-- after an entry, one entry less is begun
one_less : (i : Problem) (s : List Placed) (left : Left) (t : List Placed) (after : Left) → reading cut (entry i s) left ≡ Ok (t, after) → begun left.words ≡ suc (begun after.words)
unfolding begun
one_less i s left t after h = ap (λ ws. begun ws) (four_words i s left t after h).1

pub words_fewer : (i : Problem) (s : List Placed) (left : Left) (t : List Placed) (after : Left) → reading cut (entry i s) left ≡ Ok (t, after) → length after.words < length left.words
words_fewer i s left t after h = omega (arith, ap (λ (ws : List (List ℕ)). length ws) (four_words i s left t after h).1)

-- if words are left, an entry is begun
some_begun : (words : List (List ℕ)) → (words ≡ [] → ⊥) → (n : ℕ) × (begun words ≡ suc n)
unfolding begun
some_begun [] some = absurd (some refl)
some_begun (a ∷ []) some = (0, refl)
some_begun (a ∷ b ∷ []) some = (0, refl)
some_begun (a ∷ b ∷ c ∷ []) some = (0, refl)
some_begun (a ∷ b ∷ c ∷ d ∷ words) some = (begun words, refl)

-- all entries that are begun
abbrev pub entries_left : Problem → List Placed → Left → Result (List Placed × Left) SolutionFault
entries_left i s left = reading cut (times (entry i) (begun left.words) s) left

module _ (i : Problem) (s : List Placed) (left : Left) where
  -- one entry, and those after it
  after_one : (n : ℕ) → begun left.words ≡ suc n → entries_left i s left ≡ reading cut (entry i s >>= times (entry i) n) left
  unfolding times
  after_one n e = ap (λ m. reading cut (times (entry i) m s) left) e

  pub entries_go_on : (t : List Placed) (after : Left) → reading cut (entry i s) left ≡ Ok (t, after) → entries_left i s left ≡ entries_left i t after
  entries_go_on t after h = after_one (begun after.words) (one_less i s left t after h) ∙ read_then cut (entry i s) (times (entry i) (begun after.words)) left after t h

  pub entries_fail : (e : SolutionFault) → (left.words ≡ [] → ⊥) → Fails lacks_memory e (reading cut (entry i s) left) → Fails lacks_memory e (entries_left i s left)
  entries_fail e some fails =
      let n = some_begun left.words some in
      fails_there cut lacks_memory e (entry i s) (times (entry i) n.0) left (entries_left i s left) (after_one n.0 n.1) fails

  pub entries_end : left.words ≡ [] → entries_left i s left ≡ Ok (s, left)
  unfolding begun times
  entries_end none = ap (λ ws. reading cut (times (entry i) (begun ws) s) left) none ∙ read_done cut s left
