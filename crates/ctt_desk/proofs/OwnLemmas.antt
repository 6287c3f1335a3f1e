-- The drafts of one planner in a history, and how an accepted commit changes them.
use Rattle.std.proofs.Common.{◌≡◌, ◌==◌, ◌+◌, ◌≤◌, ℕ, cond, List, [], ◌∷◌, ◌++◌, length, take, None, inl, inr, refl, sym, ap, ◌∙◌, subst, arith, eq-eqb, length-append}
use Rattle.std.proofs.lemmas.List.{append-nil, take_all}
use Rattle.std.proofs.lemmas.List.Elements.{filter-append}
use mathlib.Core.List.{IsPrefix}
use Rattle.ctt_problem.specs.Problem.{Problem}
use Rattle.ctt_problem.specs.declared.placed.Placed.{Placed}
use Rattle.ctt_draft.specs.Drafts.{calls_of, stale}
use Rattle.ctt_draft.specs.declared.asked.Asked.{Asked}
use Rattle.ctt_core.specs.Runs.{after, Legal}
use Rattle.ctt_core.specs.declared.journal.JournalEntry.{JournalEntry}
use Rattle.ctt_desk.specs.Histories.{own, entry_of, IsNotHis}
use Rattle.ctt_desk.specs.Planners.{PlannerValue, DraftingValue, Grows, IsAccepted, IsForeign, seen_up_to}
use Rattle.ctt_desk.proofs.PrefixLemmas.{prefix_self}

nothing : {A : Type 0} (xs : List A) → length xs ≡ 0 → xs ≡ []
nothing [] h = refl
nothing (x ∷ xs) h = absurd (omega arith)

take_whole : {A : Type 0} (xs : List A) (n : ℕ) → n ≡ length xs → take n xs ≡ xs
take_whole xs n h = take_all n xs (omega arith)

own-entry : (p : ℕ) (asked : List Asked) → own p (entry_of p asked ∷ []) ≡ entry_of p asked ∷ []
own-entry p asked = ap (λ b. cond b (entry_of p asked ∷ []) []) (eq-eqb p p refl)

pub own-append : (p : ℕ) (xs ys : List JournalEntry) → own p (xs ++ ys) ≡ own p xs ++ own p ys
own-append p xs ys = filter-append (λ (e : JournalEntry). e.planner == p) xs ys

-- a longer history has no fewer drafts of one planner
pub own_more : (p n : ℕ) (h more : List JournalEntry) → IsPrefix h more → n ≤ length (own p h) → n ≤ length (own p more)
own_more p n h more begins least = omega (arith, least, ap length (sym (ap (own p) begins.1) ∙ own-append p h begins.0), length-append (own p h) (own p begins.0))

-- nor has the new front of a planner whose commit is refused as not his
pub own_seen : (p n count : ℕ) (j old new : List JournalEntry) → IsNotHis j p n old new count → n ≤ length (own p old) → n ≤ length (own p new)
own_seen p n count j old new (inl w) least = subst (λ h. n ≤ length (own p h)) (sym w.0) least
own_seen p n count j old new (inr w) least = own_more p n old new w.0.1 least

-- a draft that extends the journal j to f is accepted, if j has as many of the planner's drafts as
-- he committed
accepted_by : (i : Problem) (t0 : List Placed) (d : DraftingValue) (q : PlannerValue) (j f : List JournalEntry) → f ≡ j ++ entry_of d.planner.number d.asked ∷ [] → IsPrefix d.planner.front j → length (own d.planner.number j) ≡ d.planner.committed → d.planner.committed ≤ length (own d.planner.number d.planner.front) → Legal i t0 f → stale i d.base (after i t0 j) (calls_of d.asked) ≡ None
    → q ≡ record { number = d.planner.number; committed = d.planner.committed + 1; front = f } → IsAccepted i t0 d q f
accepted_by i t0 d q j f is begins count least legal fresh becomes =
    let p = d.planner.number in
    let e : JournalEntry = entry_of p d.asked in
    let mine : List JournalEntry = own p d.planner.front in
    let rest : List JournalEntry = own p begins.0 in
    let all : own p j ≡ mine ++ rest = sym (ap (own p) begins.1) ∙ own-append p d.planner.front begins.0 in
    let size : length mine + length rest ≡ d.planner.committed = sym (length-append mine rest) ∙ sym (ap length all) ∙ count in
    let none : rest ≡ [] = nothing rest (omega (arith, size, least)) in
    let same : own p j ≡ take d.planner.committed mine = all ∙ ap (λ l. mine ++ l) none ∙ append-nil mine ∙ sym (take_whole mine d.planner.committed (omega (arith, size, ap length none))) in
    let owned : own p f ≡ own p j ++ e ∷ [] = ap (own p) is ∙ own-append p j (e ∷ []) ∙ ap (λ l. own p j ++ l) (own-entry p d.asked) in record {
      legal = legal;
      between = begins.0;
      ends = is ∙ ap (λ l. l ++ e ∷ []) (sym begins.1);
      fresh = subst (λ l. stale i d.base (after i t0 l) (calls_of d.asked) ≡ None) (sym begins.1) fresh;
      his = owned ∙ ap (λ l. l ++ e ∷ []) same;
      counted = ap length owned ∙ length-append (own p j) (e ∷ []) ∙ ap (λ n. n + 1) count;
      planner = becomes;
    }

-- one more entry of planner p
pub counted_now : (p n : ℕ) (j f : List JournalEntry) (asked : List Asked) → f ≡ j ++ entry_of p asked ∷ [] → length (own p j) ≡ n → length (own p f) ≡ n + 1
counted_now p n j f asked is count = ap (λ l. length (own p l)) is ∙ ap length (own-append p j (entry_of p asked ∷ []) ∙ ap (λ l. own p j ++ l) (own-entry p asked)) ∙ length-append (own p j) (entry_of p asked ∷ []) ∙ ap (λ n. n + 1) count

grown : (i : Problem) (t0 : List Placed) (p q : PlannerValue) (f : List JournalEntry) → q ≡ seen_up_to p f → IsPrefix p.front f → Legal i t0 f → Grows i t0 p q
grown i t0 p q f is begins legal = subst (λ (x : PlannerValue). Grows i t0 p x) (sym is) (record { number = refl; committed = refl; begins = begins; legal = legal })

-- why a draft is not accepted, from what was found under the lock
pub foreign : (i : Problem) (t0 : List Placed) (v d : DraftingValue) (q : PlannerValue) (j f : List JournalEntry) (count : ℕ) → v ≡ d → IsNotHis j v.planner.number v.planner.committed v.planner.front f count → q ≡ seen_up_to v.planner f → Legal i t0 f → IsForeign i t0 d q count
foreign i t0 v d q j f count is (inl w) becomes legal = subst (λ (x : DraftingValue). IsForeign i t0 x q count) is (record {
  planner = grown i t0 v.planner q f becomes (subst (λ (x : List JournalEntry). IsPrefix v.planner.front x) (sym w.0) (prefix_self v.planner.front)) legal;
  other = inl (w.2, ap (λ (x : PlannerValue). x.front) becomes ∙ w.0);
})
foreign i t0 v d q j f count is (inr w) becomes legal = subst (λ (x : DraftingValue). IsForeign i t0 x q count) is (record {
  planner = grown i t0 v.planner q f becomes w.0.1 legal;
  other = inr (
    w.1 ∙ ap (λ (x : List JournalEntry). length (own v.planner.number x)) (sym w.0.0) ∙ ap (λ (x : PlannerValue). length (own x.number x.front)) (sym becomes),
    λ e. w.2 (e ∙ ap (λ (x : PlannerValue). x.committed) becomes),
  );
})

-- that a draft is accepted, from what was found under the lock
pub accepted : (i : Problem) (t0 : List Placed) (v d : DraftingValue) (q : PlannerValue) (j f : List JournalEntry) → v ≡ d → f ≡ j ++ entry_of v.planner.number v.asked ∷ [] → IsPrefix v.planner.front j → length (own v.planner.number j) ≡ v.planner.committed → v.planner.committed ≤ length (own v.planner.number v.planner.front) → Legal i t0 f → stale i v.base (after i t0 j) (calls_of v.asked) ≡ None
    → q ≡ record { number = v.planner.number; committed = v.planner.committed + 1; front = f } → IsAccepted i t0 d q f
accepted i t0 v d q j f same is begins count least legal fresh becomes = subst (λ (x : DraftingValue). IsAccepted i t0 x q f) same (accepted_by i t0 v q j f is begins count least legal fresh becomes)
