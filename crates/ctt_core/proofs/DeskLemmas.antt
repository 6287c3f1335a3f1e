-- A desk that answers from its stored state answers as its run requires.
use Rattle.std.proofs.Common.{◌≡◌, ℕ, ◌+◌, ◌≤◌, ◌<◌, Bool, true, false, cond, ◌==◌, List, [], ◌∷◌, ◌++◌, take, set, Option, Some, None, refl, ◌∙◌, sym, ap, ap₂, subst, length, length-set, arith, inl, inr, append-nil, take_all}
use Rattle.std.proofs.lemmas.Bool.{cases_eq, eq-eqb, ne_eqb}
use Rattle.std.proofs.lemmas.List.{take-append-le, get_or-set_same, get_or-set_other}
use Rattle.ctt_problem.specs.Problem.{Problem}
use Rattle.ctt_problem.specs.declared.placed.Placed.{Placed}
use Rattle.ctt_rules.specs.Hard.{Lawful}
use Rattle.ctt_edits.specs.Calls.{reply}
use Rattle.ctt_edits.specs.Looks.{shown}
use Rattle.ctt_edits.specs.declared.call.Call.{Call}
use Rattle.ctt_edits.specs.declared.reply.Reply.{Reply}
use Rattle.ctt_edits.specs.declared.row.Row.{Row}
use Rattle.ctt_draft.specs.Drafts.{calls_of, whole, stale}
use Rattle.ctt_core.specs.declared.event.Event.{Event}
use Rattle.ctt_core.specs.declared.event.Event.TheVariants.{Open, Ask, Peek, Status, Commit, Refresh, Abandon, Show}
use Rattle.ctt_core.specs.declared.answer.Answer.{Answer}
use Rattle.ctt_core.specs.declared.answer.Answer.TheVariants.{Opened, AlreadyOpen, NoDraft, Replied, Committed, Refreshed, Stale, Abandoned, NoMemory}
use Rattle.ctt_core.specs.declared.journal.JournalEntry.{JournalEntry}
use Rattle.ctt_core.specs.Answers.{OpenValue, DeskView, SameView, open_answer, ask_answer, peek_answer, status_answer, acceptance, commit_answer, renewal, refresh_answer, abandon_answer, answer_to, IsPermitted}
use Rattle.ctt_core.specs.Runs.{after, Legal, Turn, OpenDraft, ask, begin, renew, turned, commits, draft, draft_entry, entered, accepted_of, now, stored, view_after, reference_answer, IsRight, Right, EventFits, RunFits}
use Rattle.ctt_core.specs.Desks.{DeskValue, draft_at, StandsAt, view_of, with_draft, with_call, with_base, settled, next_state, IsAnswerTo, SameDesk}
use Rattle.ctt_core.specs.Laws.{Stands, Serial, DeskShowsReference, DeskFollowsReference, DeskIsSerial}
use Rattle.ctt_core.proofs.RunLemmas.{base, seen, Good, GoodDraft, right_is_good, after-push, headline}

-- a desk that stands at a run shows what the reference desk shows
same_view : (v : DeskValue) (past : List Turn) → commits past ≡ length (accepted_of past) → StandsAt v past → SameView (view_of v) (view_after v.problem v.opening past)
same_view v past n s = record { list = s.list; count = ap length s.journal ∙ sym n; drafts = s.drafts }

-- by views that are the same the same answers are given
same_answer : (i : Problem) (v w : DeskView) (event : Event) → SameView v w → answer_to i v event ≡ answer_to i w event
same_answer i v w (Open p) s = ap open_answer (s.drafts p)
same_answer i v w (Ask p call) s = ap (ask_answer call) (s.drafts p)
same_answer i v w (Peek p look) s = ap (peek_answer look) (s.drafts p)
same_answer i v w (Status p) s = ap (status_answer v.list v.count) (s.drafts p) ∙ ap₂ (λ list n. status_answer list n (w.drafts p)) s.list s.count
same_answer i v w (Commit p) s = ap (commit_answer v.list v.count) (s.drafts p) ∙ ap₂ (λ list n. commit_answer list n (w.drafts p)) s.list s.count
same_answer i v w (Refresh p) s = ap (refresh_answer v.list) (s.drafts p) ∙ ap (λ list. refresh_answer list (w.drafts p)) s.list
same_answer i v w (Abandon p) s = ap abandon_answer (s.drafts p)
same_answer i v w (Show look) s = ap (λ list. Replied (shown i list look)) s.list

-- a stored draft is unchanged when the history grows
stored_grown : (i : Problem) (t0 : List Placed) (h more : List JournalEntry) (o : Option OpenDraft) → GoodDraft i t0 h o → stored i t0 (h ++ more) o ≡ stored i t0 h o
stored_grown i t0 h more None g = refl
stored_grown i t0 h more (Some d) g = let lt : d.count ≤ length h = g.0 in rw take-append-le refl

-- a turn that adds no entry
stays : (v : DeskValue) (past : List Turn) (event : Event) (answer : Answer) (drafts : List (Option OpenValue)) → entered event answer past ≡ [] → StandsAt v past →
    ((p : ℕ) → draft_at drafts p ≡ stored v.problem v.opening (accepted_of past) (turned p (commits past) event answer (draft p past))) → StandsAt (record v { drafts = drafts }) (record { event = event; answer = answer } ∷ past)
stays v past event answer drafts none s each =
    let same : accepted_of past ++ entered event answer past ≡ accepted_of past = ap (λ es. accepted_of past ++ es) none ∙ append-nil (accepted_of past) in
    record {
      list = s.list ∙ ap (after v.problem v.opening) (sym same);
      journal = s.journal ∙ sym same;
      drafts = λ p. each p ∙ ap (λ h. stored v.problem v.opening h (turned p (commits past) event answer (draft p past))) (sym same);
    }

-- one draft is replaced, and the others are unchanged
one_draft : (p q : ℕ) (new : Option OpenValue) (old : List (Option OpenValue)) (mine other : Option OpenValue) → p < length old → new ≡ mine → draft_at old q ≡ other → draft_at (set old p new) q ≡ cond (q == p) mine other
one_draft p q new old mine other lt e k = elim (cases_eq q p) [
  | inl same ↦ rw (eq-eqb q p same) (ap (draft_at (set old p new)) same ∙ get_or-set_same old p new None lt ∙ e)
  | inr apart ↦ rw (ne_eqb q p apart) (get_or-set_other old p q new None apart ∙ k)
]

stored_cond : (i : Problem) (t0 : List Placed) (h : List JournalEntry) (b : Bool) (x y : Option OpenDraft) → cond b (stored i t0 h x) (stored i t0 h y) ≡ stored i t0 h (cond b x y)
stored_cond i t0 h true x y = refl
stored_cond i t0 h false x y = refl

-- the draft of planner p is now the one that the run has, and the others are unchanged
turned_one : (v : DeskValue) (past : List Turn) (p q : ℕ) (new : Option OpenValue) (x : Option OpenDraft) → p < length v.drafts → StandsAt v past → new ≡ stored v.problem v.opening (accepted_of past) x → draft_at (set v.drafts p new) q ≡ stored v.problem v.opening (accepted_of past) (cond (q == p) x (draft q past))
turned_one v past p q new x lt s e =
    one_draft p q new v.drafts (stored v.problem v.opening (accepted_of past) x) (stored v.problem v.opening (accepted_of past) (draft q past)) lt e (s.drafts q)
    ∙ stored_cond v.problem v.opening (accepted_of past) (q == p) x (draft q past)

-- a draft whose snapshot is the desk's timetable is one that was opened or refreshed after all
-- commits
based : (v : DeskValue) (past : List Turn) (d : OpenDraft) → commits past ≡ length (accepted_of past) → StandsAt v past → d.count ≡ commits past → Some (record { since = length v.journal; draft = record { problem = v.problem; base = v.list; asked = d.asked } }) ≡ stored v.problem v.opening (accepted_of past) (Some d)
based v past d n s e =
    let full : take d.count (accepted_of past) ≡ accepted_of past = take_all d.count (accepted_of past) (omega (arith, n, e)) in
    ap₂ (λ k list. Some (record { since = k; draft = record { problem = v.problem; base = list; asked = d.asked } })) (ap length s.journal ∙ sym n ∙ sym e) (s.list ∙ ap (after v.problem v.opening) (sym full))

open_goes : (v : DeskValue) (past : List Turn) (p : ℕ) (o : Option OpenDraft) → p < length v.drafts → commits past ≡ length (accepted_of past) → StandsAt v past → StandsAt (next_state v (Open p) (open_answer (seen v.problem v.opening past o))) (record { event = Open p; answer = open_answer (seen v.problem v.opening past o) } ∷ past)
open_goes v past p (Some d) lt n s = stays v past (Open p) AlreadyOpen v.drafts refl s s.drafts
open_goes v past p None lt n s =
    let new : Option OpenValue = Some (record { since = length v.journal; draft = record { problem = v.problem; base = v.list; asked = [] } }) in
    stays v past (Open p) Opened (set v.drafts p new) refl s (λ q. turned_one v past p q new (begin (commits past)) lt s (based v past (record { count = commits past; asked = [] }) n s refl))

ask_goes : (v : DeskValue) (past : List Turn) (p : ℕ) (call : Call) (o : Option OpenDraft) → p < length v.drafts → draft p past ≡ o → StandsAt v past → StandsAt (next_state v (Ask p call) (ask_answer call (seen v.problem v.opening past o))) (record { event = Ask p call; answer = ask_answer call (seen v.problem v.opening past o) } ∷ past)
ask_goes v past p call None lt e s = stays v past (Ask p call) NoDraft v.drafts refl s s.drafts
ask_goes v past p call (Some d) lt e s =
    let told : Reply = reply v.problem (whole v.problem (base v.problem v.opening past d) (calls_of d.asked)) call in
    let mine : with_call call told (draft_at v.drafts p) ≡ stored v.problem v.opening (accepted_of past) (ask call told (Some d)) = ap (with_call call told) (s.drafts p ∙ ap (stored v.problem v.opening (accepted_of past)) e) in
    stays v past (Ask p call) (Replied told) (set v.drafts p (with_call call told (draft_at v.drafts p))) refl s
    (λ q. turned_one v past p q (with_call call told (draft_at v.drafts p)) (ask call told (Some d)) lt s mine ∙ ap (stored v.problem v.opening (accepted_of past)) (own q told))
  where
    own : (q : ℕ) (told : Reply) → cond (q == p) (ask call told (Some d)) (draft q past) ≡ cond (q == p) (ask call told (draft q past)) (draft q past)
    own q told = elim (cases_eq q p) [
      | inl same ↦ (let its : draft q past ≡ Some d = ap (λ x. draft x past) same ∙ e in rw its refl)
      | inr apart ↦ rw (ne_eqb q p apart) refl
    ]

ended_goes : (v : DeskValue) (past : List Turn) (p : ℕ) (event : Event) (answer : Answer) → p < length v.drafts → entered event answer past ≡ [] → ((q : ℕ) → turned q (commits past) event answer (draft q past) ≡ cond (q == p) None (draft q past)) → StandsAt v past → StandsAt (record v { drafts = set v.drafts p None }) (record { event = event; answer = answer } ∷ past)
ended_goes v past p event answer lt none turn s =
    stays v past event answer (set v.drafts p None) none s
    (λ q. turned_one v past p q None None lt s refl ∙ ap (stored v.problem v.opening (accepted_of past)) (sym (turn q)))

abandon_goes : (v : DeskValue) (past : List Turn) (p : ℕ) (o : Option OpenDraft) → p < length v.drafts → StandsAt v past → StandsAt (next_state v (Abandon p) (abandon_answer (seen v.problem v.opening past o))) (record { event = Abandon p; answer = abandon_answer (seen v.problem v.opening past o) } ∷ past)
abandon_goes v past p None lt s = stays v past (Abandon p) NoDraft v.drafts refl s s.drafts
abandon_goes v past p (Some d) lt s = ended_goes v past p (Abandon p) Abandoned lt refl (λ q. refl) s

refresh_goes : (v : DeskValue) (past : List Turn) (p : ℕ) (d : OpenDraft) (o : Option Row) → p < length v.drafts → draft p past ≡ Some d → commits past ≡ length (accepted_of past) → StandsAt v past → StandsAt (next_state v (Refresh p) (renewal o)) (record { event = Refresh p; answer = renewal o } ∷ past)
refresh_goes v past p d (Some row) lt e n s = ended_goes v past p (Refresh p) (Stale row) lt refl (λ q. refl) s
refresh_goes v past p d None lt e n s =
    let new : Option OpenValue = with_base v (draft_at v.drafts p) in
    let mine : new ≡ stored v.problem v.opening (accepted_of past) (renew (commits past) (Some d)) =
    ap (with_base v) (s.drafts p ∙ ap (stored v.problem v.opening (accepted_of past)) e)
    ∙ based v past (record { count = commits past; asked = d.asked }) n s refl in
    stays v past (Refresh p) Refreshed (set v.drafts p new) refl s
    (λ q. turned_one v past p q new (renew (commits past) (Some d)) lt s mine ∙ ap (stored v.problem v.opening (accepted_of past)) (own q))
  where
    own : (q : ℕ) → cond (q == p) (renew (commits past) (Some d)) (draft q past) ≡ cond (q == p) (renew (commits past) (draft q past)) (draft q past)
    own q = elim (cases_eq q p) [
      | inl same ↦ (let its : draft q past ≡ Some d = ap (λ x. draft x past) same ∙ e in rw its refl)
      | inr apart ↦ rw (ne_eqb q p apart) refl
    ]

refresh_any : (v : DeskValue) (past : List Turn) (p : ℕ) (o : Option OpenDraft) → p < length v.drafts → draft p past ≡ o → commits past ≡ length (accepted_of past) → StandsAt v past → StandsAt (next_state v (Refresh p) (refresh_answer (now v.problem v.opening past) (seen v.problem v.opening past o))) (record { event = Refresh p; answer = refresh_answer (now v.problem v.opening past) (seen v.problem v.opening past o) } ∷ past)
refresh_any v past p None lt e n s = stays v past (Refresh p) NoDraft v.drafts refl s s.drafts
refresh_any v past p (Some d) lt e n s = refresh_goes v past p d (stale v.problem (base v.problem v.opening past d) (now v.problem v.opening past) (calls_of d.asked)) lt e n s

commit_goes : (v : DeskValue) (past : List Turn) (p n : ℕ) (d : OpenDraft) (o : Option Row) → p < length v.drafts → draft p past ≡ Some d → Good v.problem v.opening (accepted_of past) (commits past) (λ p. draft p past) → StandsAt v past → StandsAt (next_state v (Commit p) (acceptance n o)) (record { event = Commit p; answer = acceptance n o } ∷ past)
commit_goes v past p n d (Some row) lt e g s = ended_goes v past p (Commit p) (Stale row) lt refl (λ q. refl) s
commit_goes v past p n d None lt e g s =
    let h : List JournalEntry = accepted_of past in
    let one : JournalEntry = record { planner = p; asked = d.asked } in
    let list : h ++ draft_entry p (draft p past) ≡ h ++ one ∷ [] = ap (λ o. h ++ draft_entry p o) e in
    let mine : draft_at v.drafts p ≡ stored v.problem v.opening h (Some d) = s.drafts p ∙ ap (stored v.problem v.opening h) e in
    let done : StandsAt (settled p v (stored v.problem v.opening h (Some d))) (record { event = Commit p; answer = Committed n } ∷ past) = record {
      list = ap (λ t. whole v.problem t (calls_of d.asked)) s.list ∙ sym (after-push v.problem v.opening h one) ∙ ap (after v.problem v.opening) (sym list);
      journal = ap (λ es. es ++ one ∷ []) s.journal ∙ sym list;
      drafts = λ q. others q;
    } in
    subst (λ k. StandsAt (settled p v k) (record { event = Commit p; answer = Committed n } ∷ past)) (sym mine) done
  where
    grown_all : List JournalEntry
    grown_all = accepted_of past ++ draft_entry p (draft p past)

    others : (q : ℕ) → draft_at (set v.drafts p None) q ≡ stored v.problem v.opening grown_all (cond (q == p) None (draft q past))
    others q =
        one_draft p q None v.drafts (stored v.problem v.opening grown_all None) (stored v.problem v.opening grown_all (draft q past)) lt refl
        (s.drafts q ∙ sym (stored_grown v.problem v.opening (accepted_of past) (draft_entry p (draft p past)) (draft q past) (g.good q)))
        ∙ stored_cond v.problem v.opening grown_all (q == p) None (draft q past)

commit_any : (v : DeskValue) (past : List Turn) (p : ℕ) (o : Option OpenDraft) → p < length v.drafts → draft p past ≡ o → Good v.problem v.opening (accepted_of past) (commits past) (λ p. draft p past) → StandsAt v past → StandsAt (next_state v (Commit p) (commit_answer (now v.problem v.opening past) (commits past) (seen v.problem v.opening past o))) (record { event = Commit p; answer = commit_answer (now v.problem v.opening past) (commits past) (seen v.problem v.opening past o) } ∷ past)
commit_any v past p None lt e g s = stays v past (Commit p) NoDraft v.drafts refl s s.drafts
commit_any v past p (Some d) lt e g s = commit_goes v past p (commits past + 1) d (stale v.problem (base v.problem v.opening past d) (now v.problem v.opening past) (calls_of d.asked)) lt e g s

reference_goes : (v : DeskValue) (past : List Turn) (event : Event) → EventFits v.problem (length v.drafts) event → Good v.problem v.opening (accepted_of past) (commits past) (λ p. draft p past) → StandsAt v past → StandsAt (next_state v event (reference_answer v.problem v.opening past event)) (record { event = event; answer = reference_answer v.problem v.opening past event } ∷ past)
reference_goes v past (Open p) f g s = open_goes v past p (draft p past) f g.counted s
reference_goes v past (Ask p call) f g s = ask_goes v past p call (draft p past) f.0 refl s
reference_goes v past (Peek p look) f g s = stays v past (Peek p look) (reference_answer v.problem v.opening past (Peek p look)) v.drafts refl s s.drafts
reference_goes v past (Status p) f g s = stays v past (Status p) (reference_answer v.problem v.opening past (Status p)) v.drafts refl s s.drafts
reference_goes v past (Commit p) f g s = commit_any v past p (draft p past) f refl g s
reference_goes v past (Refresh p) f g s = refresh_any v past p (draft p past) f refl g.counted s
reference_goes v past (Abandon p) f g s = abandon_goes v past p (draft p past) f s
reference_goes v past (Show look) f g s = stays v past (Show look) (reference_answer v.problem v.opening past (Show look)) v.drafts refl s s.drafts

no_memory_goes : (v : DeskValue) (past : List Turn) (event : Event) → StandsAt v past → StandsAt (next_state v event NoMemory) (record { event = event; answer = NoMemory } ∷ past)
no_memory_goes v past (Open p) s = stays v past (Open p) NoMemory v.drafts refl s s.drafts
no_memory_goes v past (Ask p call) s = stays v past (Ask p call) NoMemory v.drafts refl s s.drafts
no_memory_goes v past (Peek p look) s = stays v past (Peek p look) NoMemory v.drafts refl s s.drafts
no_memory_goes v past (Status p) s = stays v past (Status p) NoMemory v.drafts refl s s.drafts
no_memory_goes v past (Commit p) s = stays v past (Commit p) NoMemory v.drafts refl s s.drafts
no_memory_goes v past (Refresh p) s = stays v past (Refresh p) NoMemory v.drafts refl s s.drafts
no_memory_goes v past (Abandon p) s = stays v past (Abandon p) NoMemory v.drafts refl s s.drafts
no_memory_goes v past (Show look) s = stays v past (Show look) NoMemory v.drafts refl s s.drafts

-- what no answer changes
same : (v : DeskValue) → SameDesk v v
same v = record { problem = refl; opening = refl; planners = refl }

same_with : (p : ℕ) (d : Option OpenValue) (v : DeskValue) → SameDesk v (with_draft p d v)
same_with p d v = record { problem = refl; opening = refl; planners = length-set v.drafts p d }

same_settled : (p : ℕ) (v : DeskValue) (o : Option OpenValue) → SameDesk v (settled p v o)
same_settled p v None = same v
same_settled p v (Some d) = record { problem = refl; opening = refl; planners = length-set v.drafts p None }

pub same_after : (v : DeskValue) (event : Event) (answer : Answer) → SameDesk v (next_state v event answer)
same_after v (Open p) Opened = same_with p (Some (record { since = length v.journal; draft = record { problem = v.problem; base = v.list; asked = [] } })) v
same_after v (Ask p call) (Replied told) = same_with p (with_call call told (draft_at v.drafts p)) v
same_after v (Commit p) (Committed n) = same_settled p v (draft_at v.drafts p)
same_after v (Commit p) (Stale row) = same_with p None v
same_after v (Refresh p) Refreshed = same_with p (with_base v (draft_at v.drafts p)) v
same_after v (Refresh p) (Stale row) = same_with p None v
same_after v (Abandon p) Abandoned = same_with p None v
same_after v _ _ = same v

-- what holds after the run of a desk that stands at it
good_at : (v : DeskValue) (past : List Turn) → Lawful v.problem v.opening → Stands v past → Good v.problem v.opening (accepted_of past) (commits past) (λ p. draft p past)
good_at v past l st = right_is_good v.problem v.opening (length v.drafts) past l st.fit st.right

pub desk_shows_reference : DeskShowsReference
desk_shows_reference v past l st = same_view v past (good_at v past l st).counted st.at

pub desk_follows_reference : DeskFollowsReference
desk_follows_reference v past event answer l st f a =
    let w : DeskValue = next_state v event answer in
    let k : SameDesk v w = same_after v event answer in
    let is : answer_to v.problem (view_of v) event ≡ reference_answer v.problem v.opening past event = same_answer v.problem (view_of v) (view_after v.problem v.opening past) event (desk_shows_reference v past l st) in
    let right : IsRight v.problem v.opening past event answer = subst (λ x. IsPermitted event x answer) is a in
    record {
      fit = subst (λ i. RunFits i (length w.drafts) (record { event = event; answer = answer } ∷ past)) (sym k.problem) (subst (λ n. RunFits v.problem n (record { event = event; answer = answer } ∷ past)) (sym k.planners) (f, st.fit));
      right = subst (λ i. Right i w.opening (record { event = event; answer = answer } ∷ past)) (sym k.problem) (subst (λ t. Right v.problem t (record { event = event; answer = answer } ∷ past)) (sym k.opening) (right, st.right));
      at = at_now v past event answer f (good_at v past l st) st.at right;
    }
  where
    at_now : (v : DeskValue) (past : List Turn) (event : Event) (answer : Answer) → EventFits v.problem (length v.drafts) event → Good v.problem v.opening (accepted_of past) (commits past) (λ p. draft p past) → StandsAt v past → IsRight v.problem v.opening past event answer → StandsAt (next_state v event answer) (record { event = event; answer = answer } ∷ past)
    at_now v past event answer f g s (inl e) = subst (λ a. StandsAt (next_state v event a) (record { event = event; answer = a } ∷ past)) (sym e) (reference_goes v past event f g s)
    at_now v past event answer f g s (inr m) = subst (λ a. StandsAt (next_state v event a) (record { event = event; answer = a } ∷ past)) (sym m.0) (no_memory_goes v past event s)

-- a desk in the state of a correct run has the properties that the headline states
pub desk_is_serial : DeskIsSerial
desk_is_serial v past l st =
    let both : Legal v.problem v.opening (accepted_of past) × Lawful v.problem (now v.problem v.opening past) = headline v.problem v.opening (length v.drafts) past l st.fit st.right in
    record {
      journal = st.at.journal;
      legal = subst (Legal v.problem v.opening) (sym st.at.journal) both.0;
      list = st.at.list ∙ ap (after v.problem v.opening) (sym st.at.journal);
      lawful = subst (Lawful v.problem) (sym st.at.list) both.1;
    }

pub serial_after : (v : DeskValue) (past : List Turn) (event : Event) (answer : Answer) → Lawful v.problem v.opening → Stands v past → EventFits v.problem (length v.drafts) event → IsAnswerTo v event answer → Serial (next_state v event answer) (record { event = event; answer = answer } ∷ past)
serial_after v past event answer l st f a =
    let k : SameDesk v (next_state v event answer) = same_after v event answer in
    desk_is_serial (next_state v event answer) (record { event = event; answer = answer } ∷ past)
    (subst (λ i. Lawful i (next_state v event answer).opening) (sym k.problem) (subst (Lawful v.problem) (sym k.opening) l))
    (desk_follows_reference v past event answer l st f a)
