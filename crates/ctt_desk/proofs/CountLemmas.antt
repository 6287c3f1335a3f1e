-- How many entries each planner has in a journal.
use Rattle.std.proofs.Common.{◌≡◌, ◌≢◌, ◌==◌, ◌+◌, ◌≤◌, ◌<◌, ℕ, zero, suc, List, [], ◌∷◌, ◌++◌, length, cond, set, get_or, inl, inr, refl, sym, ap, ap₂, ◌∙◌, arith, length-append, length-set}
use Rattle.std.specs.Prelude.{slice_index_or}
use Rattle.std.proofs.lemmas.Bool.{cases_eq, ne_eqb}
use Rattle.std.proofs.lemmas.List.{get_or-set_same, get_or-set_other, get_or_default}
use Rattle.std.proofs.lemmas.List.Sums.{length-filter, count_by-le-length}
use Rattle.ctt_draft.specs.declared.asked.Asked.{Asked}
use Rattle.ctt_core.specs.declared.journal.JournalEntry.{JournalEntry}
use Rattle.ctt_desk.specs.Histories.{own, entry_of, CountsDrafts}
use Rattle.ctt_desk.proofs.OwnLemmas.{own-append, counted_now}

-- one more planner without an entry
pub nought_more : (xs : List ℕ) → ((p : ℕ) → slice_index_or xs p 0 ≡ 0) → (p : ℕ) → slice_index_or (xs ++ 0 ∷ []) p 0 ≡ 0
nought_more [] h zero = refl
nought_more [] h (suc p) = refl
nought_more (x ∷ xs) h zero = h zero
nought_more (x ∷ xs) h (suc p) = nought_more xs (λ q. h (suc q)) p

-- a planner has no more entries than there are
pub own-fewer : (p : ℕ) (h : List JournalEntry) → length (own p h) ≤ length h
own-fewer p h = omega (arith, length-filter (λ (e : JournalEntry). e.planner == p) h, count_by-le-length (λ (e : JournalEntry). e.planner == p) h)

-- he has fewer entries than a journal that is longer by one
pub fewer : (p count : ℕ) (h more : List JournalEntry) (e : JournalEntry) → more ≡ h ++ e ∷ [] → count ≡ length (own p h) → count < length more
fewer p count h more e is same = omega (arith, own-fewer p h, ap length is, length-append h (e ∷ []))

own_none : (p q : ℕ) (asked : List Asked) → p ≢ q → length (own q (entry_of p asked ∷ [])) ≡ 0
own_none p q asked apart = ap (λ b. length (cond b (entry_of p asked ∷ []) [])) (ne_eqb p q apart)

-- the stored count of a planner is the number of his entries
pub count_read : (planners p k count : ℕ) (counts : List ℕ) (h : List JournalEntry) → CountsDrafts planners counts h → p < planners → k ≡ p → count ≡ get_or counts k count → count ≡ length (own p h)
count_read planners p k count counts h c lt at read =
    read ∙ ap (λ n. get_or counts n count) at ∙ get_or_default counts p count 0 (omega (arith, lt, c.0)) ∙ c.1 p lt

others_same : (p q : ℕ) (h : List JournalEntry) (asked : List Asked) → q ≢ p → length (own q h) ≡ length (own q (h ++ entry_of p asked ∷ []))
others_same p q h asked apart =
    let e : JournalEntry = entry_of p asked in
    omega (arith, ap length (own-append q h (e ∷ [])) ∙ length-append (own q h) (own q (e ∷ [])), own_none p q asked (λ same. apart (sym same)))

-- one more entry of planner p
pub counted_more : (planners p k count : ℕ) (counts : List ℕ) (h : List JournalEntry) (asked : List Asked) → CountsDrafts planners counts h → p < planners → k ≡ p → count ≡ length (own p h) → CountsDrafts planners (set counts k (count + 1)) (h ++ entry_of p asked ∷ [])
counted_more planners p k count counts h asked c lt at is = (length-set counts k (count + 1) ∙ c.0, λ q. λ less. each q less)
  where
    each : (q : ℕ) → q < planners → get_or (set counts k (count + 1)) q 0 ≡ length (own q (h ++ entry_of p asked ∷ []))
    each q less = elim (cases_eq q p) [
      | inl same ↦ ap₂ (λ a b. get_or (set counts a (count + 1)) b 0) at same ∙ get_or-set_same counts p (count + 1) 0 (omega (arith, lt, c.0)) ∙ sym (counted_now p count h (h ++ entry_of p asked ∷ []) asked refl (sym is)) ∙ ap (λ n. length (own n (h ++ entry_of p asked ∷ []))) (sym same)
      | inr apart ↦ ap (λ a. get_or (set counts a (count + 1)) q 0) at ∙ get_or-set_other counts p q (count + 1) 0 apart ∙ c.1 q less ∙ others_same p q h asked apart
    ]
