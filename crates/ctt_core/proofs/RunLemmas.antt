-- The accepted history of a correct run is legal.
use Rattle.std.proofs.Common.{◌≡◌, ℕ, zero, suc, ◌+◌, ◌-◌, ◌≤◌, Bool, true, false, cond, ◌==◌, List, [], ◌∷◌, ◌++◌, take, Option, Some, None, refl, ◌∙◌, sym, ap, ap₂, subst, length, arith, inl, inr, append-nil, length-append, take_all}
use Rattle.std.specs.List.{AllByRecursion as Each}
use Rattle.std.proofs.lemmas.Bool.{cases_Bool, eqb-true}
use Rattle.std.proofs.lemmas.List.{take-append-le, map-append}
use Rattle.ctt_problem.specs.Problem.{Problem}
use Rattle.ctt_problem.specs.declared.placed.Placed.{Placed}
use Rattle.ctt_rules.specs.Hard.{Lawful}
use Rattle.ctt_edits.specs.Calls.{CallFits, reply}
use Rattle.ctt_edits.specs.declared.call.Call.{Call}
use Rattle.ctt_edits.specs.declared.looks.Look.{Look}
use Rattle.ctt_edits.specs.declared.reply.Reply.{Reply}
use Rattle.ctt_edits.specs.declared.row.Row.{Row}
use Rattle.ctt_draft.specs.Drafts.{calls_of, replies_in, replies, whole, changes, stale}
use Rattle.ctt_draft.specs.declared.asked.Asked.{Asked}
use Rattle.ctt_core.specs.declared.event.Event.{Event}
use Rattle.ctt_core.specs.declared.event.Event.TheVariants.{Open, Ask, Peek, Status, Commit, Refresh, Abandon, Show}
use Rattle.ctt_core.specs.declared.answer.Answer.{Answer}
use Rattle.ctt_core.specs.declared.answer.Answer.TheVariants.{Draft, Stale, NoMemory}
use Rattle.ctt_core.specs.declared.journal.JournalEntry.{JournalEntry}
use Rattle.ctt_core.specs.declared.draft_status.DraftStatus.{DraftStatus}
use Rattle.ctt_draft.proofs.CallRuns.{lawful_whole, replies-push}
use Rattle.ctt_draft.proofs.FrameLemmas.{draft_frame}
use Rattle.ctt_core.specs.Answers.{OpenValue, open_answer, ask_answer, peek_answer, status_answer, acceptance, commit_answer, renewal, refresh_answer, abandon_answer, stale_row}
use Rattle.ctt_core.specs.Runs.{after, Legal, Turn, answered, OpenDraft, ask, renew, turned, is_commit, commits, draft, draft_entry, entered, accepted_of, now, reference_answer, stored, IsRight, Right, EventFits, RunFits}
use Rattle.ctt_core.specs.Laws.{Headline, StatusForetells, OntoJoins, AfterJoins, LegalJoins}

pub Each-join : {X : Type 0} (P : X → Type 0) (xs ys : List X) → Each P xs → Each P ys → Each P (xs ++ ys)
Each-join P [] ys h k = k
Each-join P (x ∷ xs) ys h k = (h.0, Each-join P xs ys h.1 k)

abbrev pub CallsFit : Problem → JournalEntry → Type 0
CallsFit i e = Each (CallFits i) (calls_of e.asked)

pub lawful_after : (i : Problem) (t : List Placed) (h : List JournalEntry) → Lawful i t → Each (CallsFit i) h → Lawful i (after i t h)
lawful_after i t [] l f = l
lawful_after i t (e ∷ es) l f = lawful_after i (whole i t (calls_of e.asked)) es (lawful_whole i t (calls_of e.asked) l f.0) f.1

pub Each-take : {X : Type 0} (P : X → Type 0) (n : ℕ) (xs : List X) → Each P xs → Each P (take n xs)
Each-take P zero xs h = tt
Each-take P (suc n) [] h = tt
Each-take P (suc n) (x ∷ xs) h = (h.0, Each-take P n xs h.1)

-- histories one after another
pub after_joins : AfterJoins
after_joins i t [] more = refl
after_joins i t (x ∷ xs) more = after_joins i (whole i t (calls_of x.asked)) xs more

pub legal_joins : LegalJoins
legal_joins i t [] more = (λ l. (tt, l), λ l. l.1)
legal_joins i t (x ∷ xs) more =
    let rest = legal_joins i (whole i t (calls_of x.asked)) xs more in
    (λ l. ((l.0, (rest.0 l.1).0), (rest.0 l.1).1), λ l. (l.0.0, rest.1 (l.0.1, l.1)))

-- one more draft at the end of a history
pub Legal-push : (i : Problem) (t : List Placed) (h : List JournalEntry) (e : JournalEntry) → Legal i t h → replies_in e.asked ≡ replies i (after i t h) (calls_of e.asked) → Legal i t (h ++ e ∷ [])
Legal-push i t h e l k = (legal_joins i t h (e ∷ [])).1 (l, (k, tt))

pub after-push : (i : Problem) (t : List Placed) (h : List JournalEntry) (e : JournalEntry) → after i t (h ++ e ∷ []) ≡ whole i (after i t h) (calls_of e.asked)
after-push i t h e = after_joins i t h (e ∷ [])

-- the snapshot of a draft: the timetable when it was opened or last refreshed
abbrev pub base : Problem → List Placed → List Turn → OpenDraft → List Placed
base i t0 past d = after i t0 (take d.count (accepted_of past))

-- the draft of a run as a desk shows it
abbrev pub seen : Problem → List Placed → List Turn → Option OpenDraft → Option OpenValue
seen i t0 past o = stored i t0 (accepted_of past) o

-- the replies in an open draft are those that its calls get on its snapshot
abbrev pub GoodDraft : Problem → List Placed → List JournalEntry → Option OpenDraft → Type 0
GoodDraft i t0 h None = Unit {0}
GoodDraft i t0 h (Some d) = (d.count ≤ length h) × (replies_in d.asked ≡ replies i (after i t0 (take d.count h)) (calls_of d.asked)) × Each (CallFits i) (calls_of d.asked)

grown : (i : Problem) (t0 : List Placed) (h more : List JournalEntry) (o : Option OpenDraft) → GoodDraft i t0 h o → GoodDraft i t0 (h ++ more) o
grown i t0 h more None g = tt
grown i t0 h more (Some d) g =
    let lt : d.count ≤ length h = g.0 in
    (omega (arith, length-append h more), rw take-append-le g.1, g.2)

asked_more : (i : Problem) (t0 : List Placed) (h : List JournalEntry) (d : OpenDraft) (call : Call) → CallFits i call → GoodDraft i t0 h (Some d) → GoodDraft i t0 h (ask call (reply i (whole i (after i t0 (take d.count h)) (calls_of d.asked)) call) (Some d))
asked_more i t0 h d call f g =
    let told : Reply = reply i (whole i (after i t0 (take d.count h)) (calls_of d.asked)) call in
    let calls : calls_of (d.asked ++ record { call = call; reply = told } ∷ []) ≡ calls_of d.asked ++ call ∷ [] = map-append (λ (a : Asked). a.call) d.asked (record { call = call; reply = told } ∷ []) in
    let tolds : replies_in (d.asked ++ record { call = call; reply = told } ∷ []) ≡ replies_in d.asked ++ told ∷ [] = map-append (λ (a : Asked). a.reply) d.asked (record { call = call; reply = told } ∷ []) in (
      g.0,
      tolds ∙ ap (λ rs. rs ++ told ∷ []) g.1 ∙ sym (replies-push i (after i t0 (take d.count h)) (calls_of d.asked) call) ∙ ap (replies i (after i t0 (take d.count h))) (sym calls),
      subst (Each (CallFits i)) (sym calls) (Each-join (CallFits i) (calls_of d.asked) (call ∷ []) g.2 (f, tt)),
    )

-- what holds after each correct run
pub record Good (i : Problem) (t0 : List Placed) (h : List JournalEntry) (n : ℕ) (drafts : ℕ → Option OpenDraft) : Type 0 where
  pub legal : Legal i t0 h
  pub fit : Each (CallsFit i) h
  pub counted : n ≡ length h
  pub good : (p : ℕ) → GoodDraft i t0 h (drafts p)

-- a turn that adds no entry
kept : (i : Problem) (t0 : List Placed) (h : List JournalEntry) (n : ℕ) (old new : ℕ → Option OpenDraft) → Good i t0 h n old → ((p : ℕ) → GoodDraft i t0 h (new p)) → Good i t0 (h ++ []) (n + 0) new
kept i t0 h n old new g each = record {
  legal = rw append-nil g.legal;
  fit = rw append-nil g.fit;
  counted = rw append-nil (omega (arith, g.counted));
  good = λ p. rw append-nil (each p);
}

-- the draft of q, if p equals q
own : (drafts : ℕ → Option OpenDraft) (p q : ℕ) → (p == q) ≡ true → drafts p ≡ drafts q
own drafts p q e = ap drafts (eqb-true p q e)

-- the turns, by whether the planner has an open draft
open_turn : (i : Problem) (t0 : List Placed) (past : List Turn) (q : ℕ) (o : Option OpenDraft) → Good i t0 (accepted_of past) (commits past) (λ p. draft p past) → (p : ℕ) → GoodDraft i t0 (accepted_of past) (turned p (commits past) (Open q) (open_answer (seen i t0 past o)) (draft p past))
open_turn i t0 past q (Some d) g p = g.good p
open_turn i t0 past q None g p = elim (cases_Bool (p == q)) [
  | inl y ↦ rw y (omega (arith, g.counted), refl, tt)
  | inr n ↦ rw n (g.good p)
]

ask_turn : (i : Problem) (t0 : List Placed) (past : List Turn) (q : ℕ) (call : Call) (o : Option OpenDraft) → draft q past ≡ o → CallFits i call → Good i t0 (accepted_of past) (commits past) (λ p. draft p past) → (p : ℕ) → GoodDraft i t0 (accepted_of past) (turned p (commits past) (Ask q call) (ask_answer call (seen i t0 past o)) (draft p past))
ask_turn i t0 past q call None e f g p = g.good p
ask_turn i t0 past q call (Some d) e f g p = elim (cases_Bool (p == q)) [
  | inl y ↦ (let mine : draft p past ≡ Some d = own (λ p. draft p past) p q y ∙ e in
      let good : GoodDraft i t0 (accepted_of past) (Some d) = subst (GoodDraft i t0 (accepted_of past)) mine (g.good p) in
      rw (y, mine) (asked_more i t0 (accepted_of past) d call f good))
  | inr n ↦ rw n (g.good p)
]

ended : (i : Problem) (t0 : List Placed) (h : List JournalEntry) (b : Bool) (o : Option OpenDraft) → GoodDraft i t0 h o → GoodDraft i t0 h (cond b None o)
ended i t0 h true o g = tt
ended i t0 h false o g = g

abandon_turn : (i : Problem) (t0 : List Placed) (past : List Turn) (q : ℕ) (o : Option OpenDraft) → Good i t0 (accepted_of past) (commits past) (λ p. draft p past) → (p : ℕ) → GoodDraft i t0 (accepted_of past) (turned p (commits past) (Abandon q) (abandon_answer (seen i t0 past o)) (draft p past))
abandon_turn i t0 past q None g p = g.good p
abandon_turn i t0 past q (Some d) g p = ended i t0 (accepted_of past) (p == q) (draft p past) (g.good p)

-- a commit, by its draft and by whether that is stale
commit_turn : (i : Problem) (t0 : List Placed) (past : List Turn) (q : ℕ) (d : OpenDraft) (o : Option Row) → draft q past ≡ Some d → stale i (base i t0 past d) (now i t0 past) (calls_of d.asked) ≡ o → Lawful i t0 →
    Good i t0 (accepted_of past) (commits past) (λ p. draft p past) → Good i t0 (accepted_of past ++ entered (Commit q) (acceptance (commits past + 1) o) past) (commits past + is_commit (acceptance (commits past + 1) o)) (λ p. turned p (commits past) (Commit q) (acceptance (commits past + 1) o) (draft p past))
commit_turn i t0 past q d (Some row) e s l g = kept i t0 (accepted_of past) (commits past) (λ p. draft p past) (λ p. turned p (commits past) (Commit q) (Stale row) (draft p past)) g (λ p. ended i t0 (accepted_of past) (p == q) (draft p past) (g.good p))
commit_turn i t0 past q d None e s l g =
    let h : List JournalEntry = accepted_of past in
    let mine : GoodDraft i t0 h (Some d) = subst (GoodDraft i t0 h) e (g.good q) in
    let one : JournalEntry = record { planner = q; asked = d.asked } in
    let same = draft_frame i (base i t0 past d) (now i t0 past) (calls_of d.asked) (lawful_after i t0 (take d.count h) l (Each-take (CallsFit i) d.count h g.fit)) (lawful_after i t0 h l g.fit) mine.2 s in
    let list : h ++ draft_entry q (draft q past) ≡ h ++ one ∷ [] = ap (λ o. h ++ draft_entry q o) e in
    record {
      legal = subst (Legal i t0) (sym list) (Legal-push i t0 h one g.legal (mine.1 ∙ sym same.replies_same));
      fit = subst (Each (CallsFit i)) (sym list) (Each-join (CallsFit i) h (one ∷ []) g.fit (mine.2, tt));
      counted = sym (ap length list ∙ length-append h (one ∷ []) ∙ ap (λ n. n + 1) (sym g.counted));
      good = λ p. ended i t0 (h ++ draft_entry q (draft q past)) (p == q) (draft p past) (grown i t0 h (draft_entry q (draft q past)) (draft p past) (g.good p));
    }

commit_any : (i : Problem) (t0 : List Placed) (past : List Turn) (q : ℕ) (o : Option OpenDraft) → draft q past ≡ o → Lawful i t0 →
    Good i t0 (accepted_of past) (commits past) (λ p. draft p past) → Good i t0 (accepted_of past ++ entered (Commit q) (commit_answer (now i t0 past) (commits past) (seen i t0 past o)) past) (commits past + is_commit (commit_answer (now i t0 past) (commits past) (seen i t0 past o))) (λ p. turned p (commits past) (Commit q) (commit_answer (now i t0 past) (commits past) (seen i t0 past o)) (draft p past))
commit_any i t0 past q None e l g = kept i t0 (accepted_of past) (commits past) (λ p. draft p past) (λ p. draft p past) g g.good
commit_any i t0 past q (Some d) e l g = commit_turn i t0 past q d (stale i (base i t0 past d) (now i t0 past) (calls_of d.asked)) e refl l g

-- the replies in a refreshed draft are those that its calls get on the present timetable
renewed : (i : Problem) (t0 : List Placed) (past : List Turn) (d : OpenDraft) → Lawful i t0 → stale i (base i t0 past d) (now i t0 past) (calls_of d.asked) ≡ None → Good i t0 (accepted_of past) (commits past) (λ p. draft p past) →
    GoodDraft i t0 (accepted_of past) (Some d) → GoodDraft i t0 (accepted_of past) (renew (commits past) (Some d))
renewed i t0 past d l s g mine =
    let h : List JournalEntry = accepted_of past in
    let same = draft_frame i (base i t0 past d) (now i t0 past) (calls_of d.asked) (lawful_after i t0 (take d.count h) l (Each-take (CallsFit i) d.count h g.fit)) (lawful_after i t0 h l g.fit) mine.2 s in
    let full : take (commits past) h ≡ h = take_all (commits past) h (omega (arith, g.counted)) in
    (omega (arith, g.counted), mine.1 ∙ sym same.replies_same ∙ ap (λ es. replies i (after i t0 es) (calls_of d.asked)) (sym full), mine.2)

refresh_turn : (i : Problem) (t0 : List Placed) (past : List Turn) (q : ℕ) (d : OpenDraft) (o : Option Row) → draft q past ≡ Some d → stale i (base i t0 past d) (now i t0 past) (calls_of d.asked) ≡ o → Lawful i t0 →
    Good i t0 (accepted_of past) (commits past) (λ p. draft p past) → (p : ℕ) → GoodDraft i t0 (accepted_of past) (turned p (commits past) (Refresh q) (renewal o) (draft p past))
refresh_turn i t0 past q d (Some row) e s l g p = ended i t0 (accepted_of past) (p == q) (draft p past) (g.good p)
refresh_turn i t0 past q d None e s l g p = elim (cases_Bool (p == q)) [
  | inl y ↦ (let mine : draft p past ≡ Some d = own (λ p. draft p past) p q y ∙ e in
      let good : GoodDraft i t0 (accepted_of past) (Some d) = subst (GoodDraft i t0 (accepted_of past)) mine (g.good p) in
      rw (y, mine) (renewed i t0 past d l s g good))
  | inr n ↦ rw n (g.good p)
]

refresh_any : (i : Problem) (t0 : List Placed) (past : List Turn) (q : ℕ) (o : Option OpenDraft) → draft q past ≡ o → Lawful i t0 →
    Good i t0 (accepted_of past) (commits past) (λ p. draft p past) → (p : ℕ) → GoodDraft i t0 (accepted_of past) (turned p (commits past) (Refresh q) (refresh_answer (now i t0 past) (seen i t0 past o)) (draft p past))
refresh_any i t0 past q None e l g p = g.good p
refresh_any i t0 past q (Some d) e l g p = refresh_turn i t0 past q d (stale i (base i t0 past d) (now i t0 past) (calls_of d.asked)) e refl l g p

-- only the answer Committed counts as a commit or adds an entry
open_counts : (o : Option OpenValue) → is_commit (open_answer o) ≡ 0
open_counts None = refl
open_counts (Some d) = refl

ask_counts : (call : Call) (o : Option OpenValue) → is_commit (ask_answer call o) ≡ 0
ask_counts call None = refl
ask_counts call (Some d) = refl

peek_counts : (look : Look) (o : Option OpenValue) → is_commit (peek_answer look o) ≡ 0
peek_counts look None = refl
peek_counts look (Some d) = refl

status_counts : (list : List Placed) (n : ℕ) (o : Option OpenValue) → is_commit (status_answer list n o) ≡ 0
status_counts list n None = refl
status_counts list n (Some d) = refl

renewal_counts : (o : Option Row) → is_commit (renewal o) ≡ 0
renewal_counts None = refl
renewal_counts (Some row) = refl

refresh_counts : (list : List Placed) (o : Option OpenValue) → is_commit (refresh_answer list o) ≡ 0
refresh_counts list None = refl
refresh_counts list (Some d) = renewal_counts (stale_row list d.draft)

abandon_counts : (o : Option OpenValue) → is_commit (abandon_answer o) ≡ 0
abandon_counts None = refl
abandon_counts (Some d) = refl

reference_turn : (i : Problem) (t0 : List Placed) (past : List Turn) (n : ℕ) (event : Event) → EventFits i n event → Lawful i t0 → Good i t0 (accepted_of past) (commits past) (λ p. draft p past) →
    Good i t0 (accepted_of past ++ entered event (reference_answer i t0 past event) past) (commits past + is_commit (reference_answer i t0 past event)) (λ p. turned p (commits past) event (reference_answer i t0 past event) (draft p past))
reference_turn i t0 past n (Open q) f l g = rw (open_counts (seen i t0 past (draft q past))) (kept i t0 (accepted_of past) (commits past) (λ p. draft p past) (λ p. turned p (commits past) (Open q) (open_answer (seen i t0 past (draft q past))) (draft p past)) g (open_turn i t0 past q (draft q past) g))
reference_turn i t0 past n (Ask q call) f l g = rw (ask_counts call (seen i t0 past (draft q past))) (kept i t0 (accepted_of past) (commits past) (λ p. draft p past) (λ p. turned p (commits past) (Ask q call) (ask_answer call (seen i t0 past (draft q past))) (draft p past)) g (ask_turn i t0 past q call (draft q past) refl f.1 g))
reference_turn i t0 past n (Peek q look) f l g = rw (peek_counts look (seen i t0 past (draft q past))) (kept i t0 (accepted_of past) (commits past) (λ p. draft p past) (λ p. draft p past) g g.good)
reference_turn i t0 past n (Status q) f l g = rw (status_counts (now i t0 past) (commits past) (seen i t0 past (draft q past))) (kept i t0 (accepted_of past) (commits past) (λ p. draft p past) (λ p. draft p past) g g.good)
reference_turn i t0 past n (Commit q) f l g = commit_any i t0 past q (draft q past) refl l g
reference_turn i t0 past n (Refresh q) f l g = rw (refresh_counts (now i t0 past) (seen i t0 past (draft q past))) (kept i t0 (accepted_of past) (commits past) (λ p. draft p past) (λ p. turned p (commits past) (Refresh q) (refresh_answer (now i t0 past) (seen i t0 past (draft q past))) (draft p past)) g (refresh_any i t0 past q (draft q past) refl l g))
reference_turn i t0 past n (Abandon q) f l g = rw (abandon_counts (seen i t0 past (draft q past))) (kept i t0 (accepted_of past) (commits past) (λ p. draft p past) (λ p. turned p (commits past) (Abandon q) (abandon_answer (seen i t0 past (draft q past))) (draft p past)) g (abandon_turn i t0 past q (draft q past) g))
reference_turn i t0 past n (Show look) f l g = kept i t0 (accepted_of past) (commits past) (λ p. draft p past) (λ p. draft p past) g g.good

no_memory_turn : (i : Problem) (t0 : List Placed) (past : List Turn) (event : Event) → Good i t0 (accepted_of past) (commits past) (λ p. draft p past) →
    Good i t0 (accepted_of past ++ entered event NoMemory past) (commits past + 0) (λ p. turned p (commits past) event NoMemory (draft p past))
no_memory_turn i t0 past (Open q) g = kept i t0 (accepted_of past) (commits past) (λ p. draft p past) (λ p. draft p past) g g.good
no_memory_turn i t0 past (Ask q call) g = kept i t0 (accepted_of past) (commits past) (λ p. draft p past) (λ p. draft p past) g g.good
no_memory_turn i t0 past (Peek q look) g = kept i t0 (accepted_of past) (commits past) (λ p. draft p past) (λ p. draft p past) g g.good
no_memory_turn i t0 past (Status q) g = kept i t0 (accepted_of past) (commits past) (λ p. draft p past) (λ p. draft p past) g g.good
no_memory_turn i t0 past (Commit q) g = kept i t0 (accepted_of past) (commits past) (λ p. draft p past) (λ p. draft p past) g g.good
no_memory_turn i t0 past (Refresh q) g = kept i t0 (accepted_of past) (commits past) (λ p. draft p past) (λ p. draft p past) g g.good
no_memory_turn i t0 past (Abandon q) g = kept i t0 (accepted_of past) (commits past) (λ p. draft p past) (λ p. draft p past) g g.good
no_memory_turn i t0 past (Show look) g = kept i t0 (accepted_of past) (commits past) (λ p. draft p past) (λ p. draft p past) g g.good

right_turn : (i : Problem) (t0 : List Placed) (past : List Turn) (n : ℕ) (event : Event) (answer : Answer) → IsRight i t0 past event answer → EventFits i n event → Lawful i t0 → Good i t0 (accepted_of past) (commits past) (λ p. draft p past) →
    Good i t0 (accepted_of past ++ entered event answer past) (commits past + is_commit answer) (λ p. turned p (commits past) event answer (draft p past))
right_turn i t0 past n event answer (inl e) f l g = rw e (reference_turn i t0 past n event f l g)
right_turn i t0 past n event answer (inr w) f l g = rw w.0 (no_memory_turn i t0 past event g)

pub right_is_good : (i : Problem) (t0 : List Placed) (n : ℕ) (past : List Turn) → Lawful i t0 → RunFits i n past → Right i t0 past → Good i t0 (accepted_of past) (commits past) (λ p. draft p past)
right_is_good i t0 n [] l f r = record { legal = tt; fit = tt; counted = refl; good = λ p. tt }
right_is_good i t0 n (turn ∷ past) l f r = right_turn i t0 past n turn.event turn.answer r.0 f.0 l (right_is_good i t0 n past l f.1 r.1)

pub headline : Headline
headline i t0 n past l f r =
    let g : Good i t0 (accepted_of past) (commits past) (λ p. draft p past) = right_is_good i t0 n past l f r in
    (g.legal, lawful_after i t0 (accepted_of past) l g.fit)

-- a commit after a turn that neither counts as a commit nor adds an entry
foretold : (i : Problem) (t0 : List Placed) (past : List Turn) (turn : Turn) (s : DraftStatus) (o : Option OpenDraft) → accepted_of (turn ∷ past) ≡ accepted_of past → commits (turn ∷ past) ≡ commits past → status_answer (now i t0 past) (commits past) (seen i t0 past o) ≡ Draft s → commit_answer (now i t0 (turn ∷ past)) (commits (turn ∷ past)) (seen i t0 (turn ∷ past) o) ≡ acceptance (commits past + 1) s.stale
foretold i t0 past turn s None same counted e = cc
foretold i t0 past turn s (Some d) same counted e =
    let is : record {
      edits = length (changes i (base i t0 past d) (calls_of d.asked));
      behind = commits past - d.count;
      stale = stale i (base i t0 past d) (now i t0 past) (calls_of d.asked);
    } ≡ s = cc in
    ap₂ (λ h n. acceptance (n + 1) (stale i (after i t0 (take d.count h)) (after i t0 h) (calls_of d.asked))) same counted
    ∙ ap (λ (x : DraftStatus). acceptance (commits past + 1) x.stale) is

pub status_foretells : StatusForetells
status_foretells i t0 past p s e = foretold i t0 past (answered (Status p) (Draft s)) s (draft p past) (append-nil (accepted_of past)) (omega arith) e

pub onto_joins : OntoJoins
onto_joins past [] more [] later e = refl
onto_joins past [] more (a ∷ answers) later e = absurd (omega arith)
onto_joins past (x ∷ es) more [] later e = absurd (omega arith)
onto_joins past (x ∷ es) more (a ∷ answers) later e = onto_joins (record { event = x; answer = a } ∷ past) es more answers later (omega arith)
