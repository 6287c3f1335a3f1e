-- The journal of a correct run: it fits, is short if the run is, and an audit of it agrees.
use Rattle.std.proofs.Common.{◌≡◌, ℕ, ◌+◌, ◌<◌, ◌≤◌, Bool, true, false, cond, ◌==◌, List, [], ◌∷◌, ◌++◌, length, Option, Some, None, refl, sym, subst, arith, inl, inr, length-append, append-nil, add-one}
use Rattle.std.specs.Prelude.{IfSome}
use Rattle.std.specs.List.{AllByRecursion as Each}
use Rattle.ctt_problem.specs.Problem.{Problem, IsProblem}
use Rattle.ctt_problem.specs.declared.placed.Placed.{Placed}
use Rattle.ctt_problem.proofs.TimetableLemmas.{Each-map}
use Rattle.ctt_rules.specs.Hard.{Lawful}
use Rattle.ctt_edits.specs.declared.call.Call.{Call}
use Rattle.ctt_edits.specs.declared.looks.Look.{Look}
use Rattle.ctt_edits.specs.declared.reply.Reply.{Reply}
use Rattle.ctt_edits.specs.declared.row.Row.{Row}
use Rattle.ctt_edits.specs.Calls.{CallFits, reply}
use Rattle.ctt_edits.specs.Looks.{shown}
use Rattle.ctt_edits.specs.Fitting.{IsReply, IsShortReply}
use Rattle.ctt_edits.proofs.ReplyLemmas.{replies_fit}
use Rattle.ctt_draft.specs.declared.asked.Asked.{Asked}
use Rattle.ctt_draft.specs.Drafts.{calls_of, replies_in, replies, whole, after_call, stale, AskedFits}
use Rattle.ctt_draft.proofs.CallRuns.{lawful_after_call, lawful_whole}
use Rattle.ctt_core.specs.declared.event.Event.{Event}
use Rattle.ctt_draft.specs.DraftValues.{IsTold}
use Rattle.ctt_core.specs.declared.event.Event.TheVariants.{Open, Ask, Peek, Status, Commit, Refresh, Abandon, Show}
use Rattle.ctt_core.specs.declared.answer.Answer.{Answer}
use Rattle.ctt_core.specs.declared.answer.Answer.TheVariants.{Opened, AlreadyOpen, NoDraft, Replied, Draft, Committed, Refreshed, Stale, Abandoned, NoMemory}
use Rattle.ctt_core.specs.declared.journal.JournalEntry.{JournalEntry}
use Rattle.ctt_core.specs.Answers.{open_answer, ask_answer, peek_answer, status_answer, acceptance, commit_answer, renewal, refresh_answer, abandon_answer}
use Rattle.ctt_core.specs.Runs.{Legal, Turn, OpenDraft, ask, begin, renew, turned, is_commit, commits, draft, draft_entry, entered, accepted_of, now, reference_answer, IsRight, Right, EventFits, RunFits}
use Rattle.ctt_core.specs.Entries.{EntryFits}
use Rattle.ctt_core.specs.Audits.{IsVerdict}
use Rattle.ctt_core.specs.Laws.{Serial, JournalAgrees}
use Rattle.ctt_core.proofs.AuditLemmas.{agrees}
use Rattle.ctt_core.proofs.DeskLemmas.{desk_is_serial}
use Rattle.ctt_core.proofs.RunLemmas.{base, seen, CallsFit, Each-join, Good, right_is_good}

-- a call and its reply fit, and the reply is short
abbrev pub FitsShort : Problem → Asked → Type 0
FitsShort i a = AskedFits i a × IsShortReply a.reply

module _ (i : Problem) (is : IsProblem i) where
  -- calls that fit, with the replies that they get on a lawful timetable, fit and have short
  -- replies
  asked_fit : (t : List Placed) (asked : List Asked) → Lawful i t → Each (CallFits i) (calls_of asked) → replies_in asked ≡ replies i t (calls_of asked) → Each (FitsShort i) asked
  asked_fit t [] lawful fit told = tt
  asked_fit t (a ∷ more) lawful fit told =
      let first : a.reply ≡ reply i t a.call = cc in
      let rest : replies_in more ≡ replies i (after_call i t a.call) (calls_of more) = cc in
      let written : IsReply i a.reply = subst (IsReply i) (sym first) (replies_fit i t a.call is lawful fit.0) in
      (((fit.0, written.0), written.1), asked_fit (after_call i t a.call) more (lawful_after_call i t a.call lawful fit.0) fit.1 rest)

  -- each call of a draft fits with its reply
  pub told_fit : (t : List Placed) (asked : List Asked) → Lawful i t → IsTold i t asked → Each (AskedFits i) asked
  told_fit t asked lawful is = Each-map (FitsShort i) (AskedFits i) (λ a f. f.0) asked (asked_fit t asked lawful is.fit is.told)

  pub history_fits : (t : List Placed) (h : List JournalEntry) → Lawful i t → Each (CallsFit i) h → Legal i t h → Each (λ (e : JournalEntry). Each (FitsShort i) e.asked) h
  history_fits t [] lawful fit legal = tt
  history_fits t (e ∷ es) lawful fit legal = (asked_fit t e.asked lawful fit.0 legal.0, history_fits (whole i t (calls_of e.asked)) es (lawful_whole i t (calls_of e.asked) lawful fit.0) fit.1 legal.1)

-- after m turns of n planners: an entry is of one of them, and no entry or draft has more calls
-- than there were turns
abbrev pub IsSmallEntry : ℕ → ℕ → JournalEntry → Type 0
IsSmallEntry n m e = (e.planner < n) × (length e.asked ≤ m)

abbrev IsSmallDraft : ℕ → Option OpenDraft → Type 0
IsSmallDraft m o = IfSome o (λ d. length d.asked ≤ m)

pub record AreSmall (n m : ℕ) (h : List JournalEntry) (drafts : ℕ → Option OpenDraft) : Type 0 where
  pub entries : Each (IsSmallEntry n m) h
  pub open_drafts : (p : ℕ) → IsSmallDraft m (drafts p)

grown_draft : (m : ℕ) (o : Option OpenDraft) → IsSmallDraft m o → IsSmallDraft (m + 1) o
grown_draft m None h = tt
grown_draft m (Some d) h = omega (arith, h)

asked_draft : (m : ℕ) (call : Call) (told : Reply) (o : Option OpenDraft) → IsSmallDraft m o → IsSmallDraft (m + 1) (ask call told o)
asked_draft m call told None h = tt
asked_draft m call told (Some d) h = omega (arith, h, length-append d.asked (record { call = call; reply = told } ∷ []))

renewed_draft : (m count : ℕ) (o : Option OpenDraft) → IsSmallDraft m o → IsSmallDraft (m + 1) (renew count o)
renewed_draft m count None h = tt
renewed_draft m count (Some d) h = omega (arith, h)

one_of : (m : ℕ) (b : Bool) (o u : Option OpenDraft) → IsSmallDraft m o → IsSmallDraft m u → IsSmallDraft m (cond b o u)
one_of m true o u h k = h
one_of m false o u h k = k

small_more : (n m : ℕ) (h : List JournalEntry) → Each (IsSmallEntry n m) h → Each (IsSmallEntry n (m + 1)) h
small_more n m h each = Each-map (IsSmallEntry n m) (IsSmallEntry n (m + 1)) (λ e f. (f.0, omega (arith, f.1))) h each

-- a turn that adds no entry
small_kept : (n m : ℕ) (h : List JournalEntry) (old new : ℕ → Option OpenDraft) → AreSmall n m h old → ((p : ℕ) → IsSmallDraft (m + 1) (new p)) → AreSmall n (m + 1) (h ++ []) new
small_kept n m h old new s each = record { entries = rw append-nil (small_more n m h s.entries); open_drafts = each }

entry_small : (n m q : ℕ) (o : Option OpenDraft) → q < n → IsSmallDraft m o → Each (IsSmallEntry n (m + 1)) (draft_entry q o)
entry_small n m q None lt h = tt
entry_small n m q (Some d) lt h = ((lt, omega (arith, h)), tt)

module _ (i : Problem) (t0 : List Placed) (n m : ℕ) (past : List Turn) (s : AreSmall n m (accepted_of past) (λ p. draft p past)) where
  -- the bounds after a turn
  abbrev Leaves : Event → Answer → Type 0
  Leaves event answer = AreSmall n (m + 1) (accepted_of past ++ entered event answer past) (λ p. turned p (commits past) event answer (draft p past))

  same_drafts : (p : ℕ) → IsSmallDraft (m + 1) (draft p past)
  same_drafts p = grown_draft m (draft p past) (s.open_drafts p)

  ended : (q p : ℕ) → IsSmallDraft (m + 1) (cond (p == q) None (draft p past))
  ended q p = one_of (m + 1) (p == q) None (draft p past) tt (same_drafts p)

  stays : (event : Event) (answer : Answer) → entered event answer past ≡ [] → ((p : ℕ) → IsSmallDraft (m + 1) (turned p (commits past) event answer (draft p past))) → Leaves event answer
  stays event answer none each = rw none (small_kept n m (accepted_of past) (λ p. draft p past) (λ p. turned p (commits past) event answer (draft p past)) s each)

  open_leaves : (q : ℕ) (o : Option OpenDraft) → Leaves (Open q) (open_answer (seen i t0 past o))
  open_leaves q None = stays (Open q) Opened refl (λ p. one_of (m + 1) (p == q) (begin (commits past)) (draft p past) (omega arith) (same_drafts p))
  open_leaves q (Some d) = stays (Open q) AlreadyOpen refl same_drafts

  ask_leaves : (q : ℕ) (call : Call) (o : Option OpenDraft) → Leaves (Ask q call) (ask_answer call (seen i t0 past o))
  ask_leaves q call None = stays (Ask q call) NoDraft refl same_drafts
  ask_leaves q call (Some d) =
      let told : Reply = reply i (whole i (base i t0 past d) (calls_of d.asked)) call in
      stays (Ask q call) (Replied told) refl (λ p. one_of (m + 1) (p == q) (ask call told (draft p past)) (draft p past) (asked_draft m call told (draft p past) (s.open_drafts p)) (same_drafts p))

  acceptance_leaves : (q : ℕ) (o : Option Row) → q < n → Leaves (Commit q) (acceptance (commits past + 1) o)
  acceptance_leaves q (Some row) lt = stays (Commit q) (Stale row) refl (ended q)
  acceptance_leaves q None lt = record {
    entries = Each-join (IsSmallEntry n (m + 1)) (accepted_of past) (draft_entry q (draft q past)) (small_more n m (accepted_of past) s.entries) (entry_small n m q (draft q past) lt (s.open_drafts q));
    open_drafts = ended q;
  }

  peek_leaves : (q : ℕ) (look : Look) (o : Option OpenDraft) → Leaves (Peek q look) (peek_answer look (seen i t0 past o))
  peek_leaves q look None = stays (Peek q look) NoDraft refl same_drafts
  peek_leaves q look (Some d) = stays (Peek q look) (Replied (shown i (whole i (base i t0 past d) (calls_of d.asked)) look)) refl same_drafts

  status_leaves : (q : ℕ) (o : Option OpenDraft) → Leaves (Status q) (status_answer (now i t0 past) (commits past) (seen i t0 past o))
  status_leaves q None = stays (Status q) NoDraft refl same_drafts
  status_leaves q (Some d) = stays (Status q) (status_answer (now i t0 past) (commits past) (seen i t0 past (Some d))) refl same_drafts

  commit_leaves : (q : ℕ) (o : Option OpenDraft) → q < n → Leaves (Commit q) (commit_answer (now i t0 past) (commits past) (seen i t0 past o))
  commit_leaves q None lt = stays (Commit q) NoDraft refl same_drafts
  commit_leaves q (Some d) lt = acceptance_leaves q (stale i (base i t0 past d) (now i t0 past) (calls_of d.asked)) lt

  renewal_leaves : (q : ℕ) (o : Option Row) → Leaves (Refresh q) (renewal o)
  renewal_leaves q (Some row) = stays (Refresh q) (Stale row) refl (ended q)
  renewal_leaves q None = stays (Refresh q) Refreshed refl (λ p. one_of (m + 1) (p == q) (renew (commits past) (draft p past)) (draft p past) (renewed_draft m (commits past) (draft p past) (s.open_drafts p)) (same_drafts p))

  refresh_leaves : (q : ℕ) (o : Option OpenDraft) → Leaves (Refresh q) (refresh_answer (now i t0 past) (seen i t0 past o))
  refresh_leaves q None = stays (Refresh q) NoDraft refl same_drafts
  refresh_leaves q (Some d) = renewal_leaves q (stale i (base i t0 past d) (now i t0 past) (calls_of d.asked))

  abandon_leaves : (q : ℕ) (o : Option OpenDraft) → Leaves (Abandon q) (abandon_answer (seen i t0 past o))
  abandon_leaves q None = stays (Abandon q) NoDraft refl same_drafts
  abandon_leaves q (Some d) = stays (Abandon q) Abandoned refl (ended q)

  reference_leaves : (event : Event) → EventFits i n event → Leaves event (reference_answer i t0 past event)
  reference_leaves (Open q) f = open_leaves q (draft q past)
  reference_leaves (Ask q call) f = ask_leaves q call (draft q past)
  reference_leaves (Peek q look) f = peek_leaves q look (draft q past)
  reference_leaves (Status q) f = status_leaves q (draft q past)
  reference_leaves (Commit q) f = commit_leaves q (draft q past) f
  reference_leaves (Refresh q) f = refresh_leaves q (draft q past)
  reference_leaves (Abandon q) f = abandon_leaves q (draft q past)
  reference_leaves (Show look) f = stays (Show look) (Replied (shown i (now i t0 past) look)) refl same_drafts

  no_memory_leaves : (event : Event) → Leaves event NoMemory
  no_memory_leaves (Open q) = stays (Open q) NoMemory refl same_drafts
  no_memory_leaves (Ask q call) = stays (Ask q call) NoMemory refl same_drafts
  no_memory_leaves (Peek q look) = stays (Peek q look) NoMemory refl same_drafts
  no_memory_leaves (Status q) = stays (Status q) NoMemory refl same_drafts
  no_memory_leaves (Commit q) = stays (Commit q) NoMemory refl same_drafts
  no_memory_leaves (Refresh q) = stays (Refresh q) NoMemory refl same_drafts
  no_memory_leaves (Abandon q) = stays (Abandon q) NoMemory refl same_drafts
  no_memory_leaves (Show look) = stays (Show look) NoMemory refl same_drafts

  right_leaves : (event : Event) (answer : Answer) → IsRight i t0 past event answer → EventFits i n event → Leaves event answer
  right_leaves event answer (inl e) f = rw e (reference_leaves event f)
  right_leaves event answer (inr w) f = rw w.0 (no_memory_leaves event)

pub all_small : (i : Problem) (t0 : List Placed) (n : ℕ) (past : List Turn) → RunFits i n past → Right i t0 past → AreSmall n (length past) (accepted_of past) (λ p. draft p past)
all_small i t0 n [] fit right = record { entries = tt; open_drafts = λ p. tt }
all_small i t0 n (turn ∷ past) fit right = subst (λ m. AreSmall n m (accepted_of (turn ∷ past)) (λ p. draft p (turn ∷ past))) (add-one (length past)) (right_leaves i t0 n (length past) past (all_small i t0 n past fit.1 right.1) turn.event turn.answer right.0 fit.0)

one_commit : (answer : Answer) → is_commit answer ≤ 1
one_commit Opened = omega arith
one_commit AlreadyOpen = omega arith
one_commit NoDraft = omega arith
one_commit (Replied r) = omega arith
one_commit (Draft s) = omega arith
one_commit (Committed k) = omega arith
one_commit (Stale row) = omega arith
one_commit Refreshed = omega arith
one_commit Abandoned = omega arith
one_commit NoMemory = omega arith

pub few_commits : (past : List Turn) → commits past ≤ length past
few_commits [] = omega arith
few_commits (turn ∷ past) = omega (arith, few_commits past, one_commit turn.answer)

-- the entries of a correct run fit
entries_fit : (i : Problem) (n : ℕ) (h : List JournalEntry) → n ≤ 1000 → (m : ℕ) → Each (IsSmallEntry n m) h → Each (λ (e : JournalEntry). Each (FitsShort i) e.asked) h → Each (EntryFits i) h
entries_fit i n [] few m small told = tt
entries_fit i n (e ∷ es) few m small told = ((omega (arith, few, small.0.0), Each-map (FitsShort i) (AskedFits i) (λ a f. f.0) e.asked told.0), entries_fit i n es few m small.1 told.1)

pub journal_fits : (i : Problem) (t0 : List Placed) (n : ℕ) (past : List Turn) → IsProblem i → Lawful i t0 → RunFits i n past → Right i t0 past → n ≤ 1000 → Each (EntryFits i) (accepted_of past)
journal_fits i t0 n past is lawful fit right few =
    let g : Good i t0 (accepted_of past) (commits past) (λ p. draft p past) = right_is_good i t0 n past lawful fit right in
    entries_fit i n (accepted_of past) few (length past) (all_small i t0 n past fit right).entries (history_fits i is t0 (accepted_of past) lawful g.fit g.legal)

-- the journal of a desk in the state of a correct run
pub journal_agrees : JournalAgrees
journal_agrees v past is lawful few st =
    let s : Serial v past = desk_is_serial v past lawful st in
    record {
      fits = subst (Each (EntryFits v.problem)) (sym s.journal) (journal_fits v.problem v.opening (length v.drafts) past is lawful st.fit st.right few);
      agrees = λ ls verdict opens. (λ is. agrees v.problem ls v.journal verdict is v.opening opens s.legal, λ e. subst (IsVerdict v.problem ls v.journal) (sym e) (record { t0 = v.opening; opens = opens; finds = s.legal }));
    }
