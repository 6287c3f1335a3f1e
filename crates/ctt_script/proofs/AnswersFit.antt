-- The answers of the reference desk, and the journal of a correct run, can be written.
use Rattle.std.proofs.Common.{subst, ◌≡◌, ℕ, zero, suc, ◌+◌, ◌<◌, ◌≤◌, Bool, true, false, cond, List, [], ◌∷◌, map, take, length, Option, Some, None, arith, inl, inr}
use Rattle.std.specs.Prelude.{IfSome}
use Rattle.std.specs.List.{find, AllByRecursion as Each}
use Rattle.std.proofs.lemmas.Bool.{cases_Bool}
use Rattle.ctt_problem.specs.Lists.{below}
use Rattle.ctt_problem.specs.Problem.{Problem, IsProblem, course_count, slot_count}
use Rattle.ctt_problem.specs.declared.placed.Placed.{Placed}
use Rattle.ctt_problem.proofs.TimetableLemmas.{Each-map}
use Rattle.ctt_rules.specs.Hard.{Lawful}
use Rattle.ctt_edits.specs.declared.call.Call.{Call}
use Rattle.ctt_edits.specs.declared.call.Call.TheVariants.{Look as Looks}
use Rattle.ctt_edits.specs.declared.row.Row.{Row}
use Rattle.ctt_edits.specs.declared.row.Row.TheVariants.{Course as CourseRow, Slot as SlotRow}
use Rattle.ctt_edits.specs.Calls.{CallFits, reply, rows_where}
use Rattle.ctt_edits.specs.Looks.{LookFits}
use Rattle.ctt_edits.specs.declared.looks.Look.{Look}
use Rattle.ctt_draft.specs.Drafts.{calls_of, whole, all_read_course, all_read_slot, all_reads, differs, stale}
use Rattle.ctt_draft.proofs.CallRuns.{lawful_whole}
use Rattle.ctt_core.specs.declared.event.Event.{Event}
use Rattle.ctt_core.specs.declared.event.Event.TheVariants.{Open, Ask, Peek, Status, Commit, Refresh, Abandon, Show}
use Rattle.ctt_core.specs.declared.journal.JournalEntry.{JournalEntry}
use Rattle.ctt_core.specs.Answers.{open_answer, ask_answer, peek_answer, status_answer, acceptance, commit_answer, renewal, refresh_answer, abandon_answer}
use Rattle.ctt_core.specs.Runs.{Turn, OpenDraft, commits, draft, accepted_of, now, reference_answer, Right, EventFits, RunFits}
use Rattle.ctt_core.proofs.RunLemmas.{base, seen, GoodDraft, Good, right_is_good, lawful_after, Each-join, Each-take, CallsFit}
use Rattle.ctt_core.proofs.JournalLemmas.{FitsShort, IsSmallEntry, all_small, few_commits, history_fits, journal_fits}
use Rattle.ctt_edits.specs.Fitting.{IsReply, IsShortReply, AreFew}
use Rattle.ctt_core.specs.Entries.{EntryFits}
use Rattle.ctt_script.specs.Entries.{CanBeWritten, RowFits, AnswerFits}
use Rattle.ctt_edits.proofs.ReplyLemmas.{replies_fit}

-- the reply to a call on a lawful timetable can be written
reply_fits : (i : Problem) → IsProblem i → (t : List Placed) → Lawful i t → (call : Call) → CallFits i call → IsReply i (reply i t call)
reply_fits i is t lawful call f = replies_fit i t call is lawful f

-- what is found is an element
found : {X : Type 0} (P : X → Type 0) (p : X → Bool) (xs : List X) → Each P xs → IfSome (find p xs) P
found P p [] h = tt
found P p (x ∷ xs) h = elim (cases_Bool (p x)) [ inl b ↦ rw b h.0 | inr b ↦ rw b (found P p xs h.1) ]

Each-of_map : {X Y : Type 0} (P : Y → Type 0) (f : X → Y) (xs : List X) → Each (λ x. P (f x)) xs → Each P (map f xs)
Each-of_map P f [] h = tt
Each-of_map P f (x ∷ xs) h = (h.0, Each-of_map P f xs h.1)

all_below : (p : ℕ → Bool) (n : ℕ) → Each (λ k. k < n) (below p n)
all_below p zero = tt
all_below p (suc n) = Each-join (λ k. k < suc n) (below p n) (cond (p n) (n ∷ []) []) (Each-map (λ k. k < n) (λ k. k < suc n) (λ k h. omega arith) (below p n) (all_below p n)) (by (p n))
  where
    by : (b : Bool) → Each (λ k. k < suc n) (cond b (n ∷ []) [])
    by true = (omega arith, tt)
    by false = tt

module _ (i : Problem) where
  rows_fit : (p q : ℕ → Bool) → Each (RowFits i) (rows_where i p q)
  rows_fit p q = Each-join (RowFits i) (map CourseRow (below p (course_count i))) (map SlotRow (below q (slot_count i)))
      (Each-of_map (RowFits i) CourseRow (below p (course_count i)) (all_below p (course_count i)))
      (Each-of_map (RowFits i) SlotRow (below q (slot_count i)) (all_below q (slot_count i)))

  -- a row that makes a draft stale is one of the instance
  pub stale_fits : (base now : List Placed) (calls : List Call) → IfSome (stale i base now calls) (RowFits i)
  stale_fits base now calls = found (RowFits i) (differs base now) (all_reads i calls) (rows_fit (all_read_course i calls) (all_read_slot calls))

  pub stale_row_fits : (base now : List Placed) (calls : List Call) (row : Row) → stale i base now calls ≡ Some row → RowFits i row
  stale_row_fits base now calls row e = subst (λ o. IfSome o (RowFits i)) e (stale_fits base now calls)

module _ (i : Problem) (is : IsProblem i) where
  acceptance_fits : (n : ℕ) (o : Option Row) → IfSome o (RowFits i) → AnswerFits i (acceptance n o)
  acceptance_fits n None h = tt
  acceptance_fits n (Some row) h = h

  renewal_fits : (o : Option Row) → IfSome o (RowFits i) → AnswerFits i (renewal o)
  renewal_fits None h = tt
  renewal_fits (Some row) h = h

  module _ (t0 : List Placed) (lawful : Lawful i t0) where
    module _ (past : List Turn) (g : Good i t0 (accepted_of past) (commits past) (λ p. draft p past)) where
      lawful_now : Lawful i (now i t0 past)
      lawful_now = lawful_after i t0 (accepted_of past) lawful g.fit

      ask_fits : (call : Call) (o : Option OpenDraft) → CallFits i call → GoodDraft i t0 (accepted_of past) o → AnswerFits i (ask_answer call (seen i t0 past o))
      ask_fits call None f d = tt
      ask_fits call (Some mine) f d =
          let at_base : Lawful i (base i t0 past mine) = lawful_after i t0 (take mine.count (accepted_of past)) lawful (Each-take (CallsFit i) mine.count (accepted_of past) g.fit) in
          (reply_fits i is (whole i (base i t0 past mine) (calls_of mine.asked)) (lawful_whole i (base i t0 past mine) (calls_of mine.asked) at_base d.2) call f).0

      peek_fits : (look : Look) (o : Option OpenDraft) → LookFits i look → GoodDraft i t0 (accepted_of past) o → AnswerFits i (peek_answer look (seen i t0 past o))
      peek_fits look None f d = tt
      peek_fits look (Some mine) f d =
          let at_base : Lawful i (base i t0 past mine) = lawful_after i t0 (take mine.count (accepted_of past)) lawful (Each-take (CallsFit i) mine.count (accepted_of past) g.fit) in
          (reply_fits i is (whole i (base i t0 past mine) (calls_of mine.asked)) (lawful_whole i (base i t0 past mine) (calls_of mine.asked) at_base d.2) (Looks look) f).0

      status_fits : (o : Option OpenDraft) → AnswerFits i (status_answer (now i t0 past) (commits past) (seen i t0 past o))
      status_fits None = tt
      status_fits (Some mine) = stale_fits i (base i t0 past mine) (now i t0 past) (calls_of mine.asked)

      commit_fits : (o : Option OpenDraft) → AnswerFits i (commit_answer (now i t0 past) (commits past) (seen i t0 past o))
      commit_fits None = tt
      commit_fits (Some mine) =
          let calls : List Call = calls_of mine.asked in
          acceptance_fits (commits past + 1) (stale i (base i t0 past mine) (now i t0 past) calls) (stale_fits i (base i t0 past mine) (now i t0 past) calls)

      refresh_fits : (o : Option OpenDraft) → AnswerFits i (refresh_answer (now i t0 past) (seen i t0 past o))
      refresh_fits None = tt
      refresh_fits (Some mine) =
          let calls : List Call = calls_of mine.asked in
          renewal_fits (stale i (base i t0 past mine) (now i t0 past) calls) (stale_fits i (base i t0 past mine) (now i t0 past) calls)

      open_fits : (o : Option OpenDraft) → AnswerFits i (open_answer (seen i t0 past o))
      open_fits None = tt
      open_fits (Some mine) = tt

      abandon_fits : (o : Option OpenDraft) → AnswerFits i (abandon_answer (seen i t0 past o))
      abandon_fits None = tt
      abandon_fits (Some mine) = tt

      reference_fits : (n : ℕ) (event : Event) → EventFits i n event → AnswerFits i (reference_answer i t0 past event)
      reference_fits n (Open p) f = open_fits (draft p past)
      reference_fits n (Ask p call) f = ask_fits call (draft p past) f.1 (g.good p)
      reference_fits n (Peek p look) f = peek_fits look (draft p past) f.1 (g.good p)
      reference_fits n (Status p) f = status_fits (draft p past)
      reference_fits n (Commit p) f = commit_fits (draft p past)
      reference_fits n (Refresh p) f = refresh_fits (draft p past)
      reference_fits n (Abandon p) f = abandon_fits (draft p past)
      reference_fits n (Show look) f = (reply_fits i is (now i t0 past) lawful_now (Looks look) f).0

    -- what the reference desk answers can be written
    pub answer_fits : (n : ℕ) (past : List Turn) (event : Event) → RunFits i n past → Right i t0 past → EventFits i n event → AnswerFits i (reference_answer i t0 past event)
    answer_fits n past event fit right f = reference_fits past (right_is_good i t0 n past lawful fit right) n event f

-- entries that fit, with few calls and short replies
entries_are : (i : Problem) (n : ℕ) (h : List JournalEntry) → Each (EntryFits i) h → Each (IsSmallEntry n 999999999) h → Each (λ (e : JournalEntry). Each (FitsShort i) e.asked) h → Each (CanBeWritten i) h
entries_are i n [] fit small asked = tt
entries_are i n (e ∷ es) fit small asked = ((fit.0, (small.0.1, Each-map (FitsShort i) (λ a. IsShortReply a.reply) (λ a f. f.1) e.asked asked.0)), entries_are i n es fit.1 small.1 asked.1)

-- the journal of a correct run that is not too long can be written
pub journal_is : (i : Problem) (t0 : List Placed) (n : ℕ) (past : List Turn) → IsProblem i → Lawful i t0 → RunFits i n past → Right i t0 past → n ≤ 1000 → length past ≤ 999999999 → Each (CanBeWritten i) (accepted_of past) × AreFew (accepted_of past)
journal_is i t0 n past is lawful fit right planners short =
    let g : Good i t0 (accepted_of past) (commits past) (λ p. draft p past) = right_is_good i t0 n past lawful fit right in
    let small : Each (IsSmallEntry n 999999999) (accepted_of past) = Each-map (IsSmallEntry n (length past)) (IsSmallEntry n 999999999) (λ e f. (f.0, omega (arith, f.1))) (accepted_of past) (all_small i t0 n past fit right).entries in
    (entries_are i n (accepted_of past) (journal_fits i t0 n past is lawful fit right planners) small (history_fits i is t0 (accepted_of past) lawful g.fit g.legal), omega (arith, few_commits past, g.counted))
