-- The steps of a desk.
use Rattle.std.proofs.Common.{◌≡◌, ℕ, zero, suc, ◌+◌, ◌<◌, List, [], ◌∷◌, set, Option, Some, None, get_or, length, ◌∙◌, sym, ap, subst, arith}
use Rattle.std.specs.Prelude.{IfSome}
use Rattle.std.proofs.lemmas.List.{get_or_default}
use Rattle.ctt_problem.specs.Problem.{Problem}
use Rattle.ctt_problem.specs.declared.placed.Placed.{Placed}
use Rattle.ctt_draft.specs.DraftValues.{Settles}
use Rattle.ctt_core.specs.Answers.{OpenValue}
use Rattle.ctt_core.specs.Desks.{DeskValue, draft_at, IsCounted, IsFresh}
use Rattle.ctt_core.specs.declared.journal.JournalEntry.{JournalEntry}

some_of : (P : OpenValue → Type 0) (o : Option OpenValue) (d : OpenValue) → IfSome o P → o ≡ Some d → P d
some_of P o d h e = subst (λ o. IfSome o P) e h

-- the value read at a planner's index is that planner's draft
pub draft_read : (drafts : List (Option OpenValue)) (v : DeskValue) (p k : ℕ) (got : Option OpenValue) → drafts ≡ v.drafts → p < length v.drafts → k ≡ p → got ≡ get_or drafts k got → got ≡ draft_at drafts p
draft_read drafts v p k got same lt at is =
    is ∙ ap (λ n. get_or drafts n got) at ∙ get_or_default drafts p got None (subst (λ ds. p < length ds) (sym same) lt)

-- an open draft is of the desk's instance
pub draft_fits : (i : Problem) (drafts : List (Option OpenValue)) (v : DeskValue) (p k : ℕ) (got : Option OpenValue) (d : OpenValue) → i ≡ v.problem → drafts ≡ v.drafts → ((q : ℕ) → IfSome (draft_at drafts q) (λ d. d.draft.problem ≡ i)) → p < length v.drafts → k ≡ p → got ≡ get_or drafts k got → got ≡ Some d → d.draft.problem ≡ v.problem
draft_fits i drafts v p k got d of same each lt at is some =
    some_of (λ d. d.draft.problem ≡ i) (draft_at drafts p) d (each p) (sym (draft_read drafts v p k got same lt at is) ∙ some) ∙ of

-- an open draft's snapshot was taken after at most as many accepted drafts as the desk has
pub draft_counted : (t : List Placed) (h : List JournalEntry) (drafts : List (Option OpenValue)) (v : DeskValue) (p k : ℕ) (got : Option OpenValue) (d : OpenValue) → drafts ≡ v.drafts → ((q : ℕ) → IfSome (draft_at drafts q) (IsCounted t (length h))) → p < length v.drafts → k ≡ p → got ≡ get_or drafts k got → got ≡ Some d → IsCounted t (length h) d
draft_counted t h drafts v p k got d same each lt at is some =
    some_of (IsCounted t (length h)) (draft_at drafts p) d (each p) (sym (draft_read drafts v p k got same lt at is) ∙ some)

-- what holds of each open draft, after one is put in a place or taken from it
pub each_set : (P : OpenValue → Type 0) (drafts : List (Option OpenValue)) (k : ℕ) (o : Option OpenValue) → ((q : ℕ) → IfSome (draft_at drafts q) P) → IfSome o P → (q : ℕ) → IfSome (draft_at (set drafts k o) q) P
each_set P [] k o h y q = h q
each_set P (x ∷ xs) zero o h y zero = y
each_set P (x ∷ xs) zero o h y (suc q) = h (suc q)
each_set P (x ∷ xs) (suc k) o h y zero = h zero
each_set P (x ∷ xs) (suc k) o h y (suc q) = each_set P xs k o (λ r. h (suc r)) y q

-- after one more accepted draft, whatever its timetable, one was accepted since each snapshot
pub each_later : (t u : List Placed) (n : ℕ) (drafts : List (Option OpenValue)) → ((q : ℕ) → IfSome (draft_at drafts q) (IsCounted t n)) → (q : ℕ) → IfSome (draft_at drafts q) (IsCounted u (n + 1))
each_later t u n drafts h q = at (draft_at drafts q) (h q)
  where
    at : (o : Option OpenValue) → IfSome o (IsCounted t n) → IfSome o (IsCounted u (n + 1))
    at None k = tt
    at (Some d) k = record { since = omega (arith, k.since); base = λ e. absurd (omega (arith, k.since, e)) }

-- a draft that can be settled on the desk's timetable
pub fresh_of : (drafts : List (Option OpenValue)) (v : DeskValue) (p k : ℕ) (got : Option OpenValue) (d : OpenValue) (t : List Placed) → drafts ≡ v.drafts → p < length v.drafts → k ≡ p → got ≡ get_or drafts k got → got ≡ Some d → t ≡ v.list → Settles d.draft t → IsFresh v (draft_at v.drafts p)
fresh_of drafts v p k got d t same lt at is some list h =
    subst (IsFresh v) (sym some ∙ draft_read drafts v p k got same lt at is ∙ ap (λ ds. draft_at ds p) same) (subst (Settles d.draft) list h)
