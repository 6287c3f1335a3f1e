-- Rerunning drafts, call by call and entry by entry.
use Rattle.std.proofs.Common.{◌≡◌, ℕ, zero, suc, ◌+◌, ◌<◌, List, [], ◌∷◌, ◌++◌, Option, Some, None, length, refl, Result, Ok, Err, ◌∙◌, sym, ap, ap₂, subst, get_or, take, drop, arith}
use Rattle.std.proofs.lemmas.List.{map-append, length-take-le, take-append-drop}
use Rattle.std.specs.Prelude.{IfOk}
use Rattle.ctt_problem.specs.Problem.{Problem}
use Rattle.ctt_problem.specs.declared.placed.Placed.{Placed}
use Rattle.ctt_edits.specs.Calls.{reply}
use Rattle.ctt_edits.specs.Openings.{opening}
use Rattle.ctt_edits.specs.declared.fault.EditFault.{EditFault}
use Rattle.ctt_edits.specs.declared.reply.Reply.{Reply}
use Rattle.ctt_draft.specs.Drafts.{calls_of, replies_in, replies, whole, after_call}
use Rattle.ctt_draft.specs.declared.asked.Asked.{Asked}
use Rattle.ctt_draft.proofs.CallRuns.{replies-push, whole-push}
use Rattle.ctt_draft.proofs.DraftSteps.{calls-push}
use Rattle.ctt_core.specs.Audits.{DiffersIn, DiffersAt, IsVerdict, Replayed}
use Rattle.ctt_core.specs.Runs.{after, Legal}
use Rattle.ctt_core.specs.declared.auditing.Verdict.{Verdict}
use Rattle.ctt_core.specs.declared.auditing.Verdict.TheVariants.{Agrees, BadOpening, Differs}
use Rattle.ctt_core.specs.declared.journal.JournalEntry.{JournalEntry}
use Rattle.ctt_core.proofs.RunLemmas.{Legal-push, after-push, legal_joins}

-- a list split at one of its elements
left_at : {X : Type 0} (xs : List X) (k : ℕ) (x : X) → k < length xs → x ≡ get_or xs k x → drop k xs ≡ x ∷ drop (k + 1) xs
left_at [] k x lt is = absurd (omega (arith, lt))
left_at (y ∷ ys) zero x lt is = ap (λ z. z ∷ ys) (sym is)
left_at (y ∷ ys) (suc k) x lt is = rw (behind k) (left_at ys k x (omega (arith, lt)) is)
  where
    behind : (k : ℕ) → suc k + 1 ≡ suc (k + 1)
    behind k = omega arith

split_at : {X : Type 0} (xs : List X) (k : ℕ) (x : X) → k < length xs → x ≡ get_or xs k x → xs ≡ take k xs ++ x ∷ drop (k + 1) xs
split_at xs k x lt is = sym (take-append-drop k xs) ∙ ap (λ ys. take k xs ++ ys) (left_at xs k x lt is)

one_more : {X : Type 0} (xs : List X) (k : ℕ) (x : X) → k < length xs → x ≡ get_or xs k x → take (k + 1) xs ≡ take k xs ++ x ∷ []
one_more [] k x lt is = absurd (omega (arith, lt))
one_more (y ∷ ys) zero x lt is = ap (λ z. z ∷ []) (sym is)
one_more (y ∷ ys) (suc k) x lt is = rw (behind k) (ap (λ zs. y ∷ zs) (one_more ys k x (omega (arith, lt)) is))
  where
    behind : (k : ℕ) → suc k + 1 ≡ suc (k + 1)
    behind k = omega arith

counted : {X : Type 0} (xs : List X) (k : ℕ) → k < length xs → k + 1 ≡ length (take k xs) + 1
counted xs k lt = ap (λ n. n + 1) (sym (length-take-le k xs (omega (arith, lt))))

-- the loop invariant: the recorded replies of the first k calls agree on t, and these calls leave u
pub record Running (i j : Problem) (t u : List Placed) (asked : List Asked) (k : ℕ) : Type 0 where
  pub same : j ≡ i
  pub told : Replayed i t u (take k asked) None

module _ (i j : Problem) (t u : List Placed) (asked : List Asked) (k : ℕ) (r : Running i j t u asked k) (x : Asked) (lt : k < length asked) (at : x ≡ get_or asked k x) (told : Reply) (tells : told ≡ reply j u x.call) where
  here : reply j u x.call ≡ reply i (whole i t (calls_of (take k asked))) x.call
  here = ap₂ (λ p w. reply p w x.call) r.same r.told.1

  -- the next recorded reply agrees
  pub running_more : (l : Problem) (v : List Placed) → l ≡ j → v ≡ after_call j u x.call → told ≡ x.reply → Running i l t v asked (k + 1)
  running_more l v still left same = record {
    same = still ∙ r.same;
    told = subst (λ xs. Replayed i t v xs None) (sym (one_more asked k x lt at)) (
      map-append (λ (a : Asked). a.reply) (take k asked) (x ∷ [])
          ∙ ap₂ (λ rs one. rs ++ one ∷ []) r.told.0 (sym same ∙ tells ∙ here)
          ∙ sym (replies-push i t (calls_of (take k asked)) x.call)
          ∙ ap (replies i t) (sym (calls-push (take k asked) x)),
      left ∙ ap₂ (λ p w. after_call p w x.call) r.same r.told.1 ∙ sym (whole-push i t (calls_of (take k asked)) x.call) ∙ ap (whole i t) (sym (calls-push (take k asked) x)),
    );
  }

  -- the next recorded reply differs
  pub running_differs : (told ≡ x.reply → ⊥) → DiffersIn i t asked (k + 1)
  running_differs other = record {
    earlier = take k asked;
    this = x;
    later = drop (k + 1) asked;
    split = split_at asked k x lt at;
    counted = counted asked k lt;
    told = r.told.0;
    other = λ e. other (tells ∙ here ∙ sym e);
  }

-- the loop invariant: the first k entries are legal on t, and leave u
pub record Hearing (i j : Problem) (t u : List Placed) (entries : List JournalEntry) (k : ℕ) : Type 0 where
  pub same : j ≡ i
  pub legal : Legal i t (take k entries)
  pub left : u ≡ after i t (take k entries)

module _ (i j : Problem) (t u v : List Placed) (entries : List JournalEntry) (k : ℕ) (r : Hearing i j t u entries k) (e : JournalEntry) (lt : k < length entries) (at : e ≡ get_or entries k e) where
  -- the recorded replies of the next entry agree
  pub hearing_more : (l : Problem) (differs : Option ℕ) → l ≡ j → Replayed j u v e.asked differs → differs ≡ None → Hearing i l t v entries (k + 1)
  hearing_more l differs still run none =
      let is : Replayed i (after i t (take k entries)) v e.asked None = subst (λ p. Replayed p (after i t (take k entries)) v e.asked None) r.same (subst (λ w. Replayed j w v e.asked None) r.left (subst (Replayed j u v e.asked) none run)) in
      let longer = one_more entries k e lt at in
      record {
        same = still ∙ r.same;
        legal = subst (Legal i t) (sym longer) (Legal-push i t (take k entries) e r.legal is.0);
        left = is.1 ∙ sym (after-push i t (take k entries) e) ∙ ap (after i t) (sym longer);
      }

  -- a recorded reply of the next entry differs
  pub hearing_differs : (differs : Option ℕ) (call : ℕ) → Replayed j u v e.asked differs → differs ≡ Some call → DiffersAt i t entries (k + 1) call
  hearing_differs differs call run some =
      let is : DiffersIn i (after i t (take k entries)) e.asked call = subst (λ p. DiffersIn p (after i t (take k entries)) e.asked call) r.same (subst (λ w. DiffersIn j w e.asked call) r.left (subst (Replayed j u v e.asked) some run)) in
      record {
        earlier = take k entries;
        this = e;
        later = drop (k + 1) entries;
        split = split_at entries k e lt at;
        counted = counted entries k lt;
        legal = r.legal;
        differs = is;
      }

-- if the entries are legal, no reply differs
head_told : (i : Problem) (t : List Placed) (earlier later : List Asked) (this : Asked) → replies_in (earlier ++ this ∷ later) ≡ replies i t (calls_of (earlier ++ this ∷ later)) → this.reply ≡ reply i (whole i t (calls_of earlier)) this.call
head_told i t [] later this e = cc
head_told i t (x ∷ xs) later this e =
    let rest : replies_in (xs ++ this ∷ later) ≡ replies i (after_call i t x.call) (calls_of (xs ++ this ∷ later)) = cc in
    head_told i (after_call i t x.call) xs later this rest

told_same : (i : Problem) (t : List Placed) (asked : List Asked) (n : ℕ) → replies_in asked ≡ replies i t (calls_of asked) → DiffersIn i t asked n → ⊥
told_same i t asked n same d = d.other (head_told i t d.earlier d.later d.this (subst (λ xs. replies_in xs ≡ replies i t (calls_of xs)) d.split same))

legal_same : (i : Problem) (t : List Placed) (h : List JournalEntry) (e c : ℕ) → Legal i t h → DiffersAt i t h e c → ⊥
legal_same i t h e c legal d =
    let all : Legal i t (d.earlier ++ d.this ∷ d.later) = subst (Legal i t) d.split legal in
    let here = ((legal_joins i t d.earlier (d.this ∷ d.later)).0 all).1 in
    told_same i (after i t d.earlier) d.this.asked c here.0 d.differs

same_opening : (i : Problem) (ls t u : List Placed) → opening i ls ≡ Ok t → opening i ls ≡ Ok u → t ≡ u
same_opening i ls t u e f = (let both : ◌≡◌ {A = Result (List Placed) (ℕ × EditFault)} (Ok t) (Ok u) = sym e ∙ f in cc)

pub agrees : (i : Problem) (ls : List Placed) (h : List JournalEntry) (v : Verdict) → IsVerdict i ls h v → (t : List Placed) → opening i ls ≡ Ok t → Legal i t h → v ≡ Agrees
agrees i ls h Agrees is t e legal = refl
agrees i ls h (BadOpening at f) is t e legal = (let both : ◌≡◌ {A = Result (List Placed) (ℕ × EditFault)} (Ok t) (Err (at, f)) = sym e ∙ is in cc)
agrees i ls h (Differs n c) is t e legal = absurd (legal_same i is.t0 h n c (subst (λ u. Legal i u h) (same_opening i ls t is.t0 e is.opens) legal) is.finds)

pub agrees_if : {E : Type 0} (i : Problem) (ls : List Placed) (h : List JournalEntry) (r : Result Verdict E) → IfOk r (IsVerdict i ls h) → IfOk r (λ v. (t : List Placed) → opening i ls ≡ Ok t → Legal i t h → v ≡ Agrees)
agrees_if i ls h (Ok v) is = agrees i ls h v is
agrees_if i ls h (Err e) is = is
