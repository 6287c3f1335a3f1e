-- The drafts of a run are those that follow from its lists of events and answers.
use Rattle.std.proofs.Common.{◌≡◌, ◌⊎◌, ℕ, ◌+◌, ◌==◌, ◌||◌, Bool, true, false, cond, List, [], ◌∷◌, ◌++◌, length, Option, Some, None, refl, ◌∙◌, sym, ap, ap₂, subst, arith, inl, inr, append-nil, append_assoc, length-append, true≢false}
use Rattle.std.proofs.lemmas.Bool.{cases_Bool}
use Rattle.std.specs.List.{AllByRecursion as Each}
use Rattle.ctt_draft.specs.declared.asked.Asked.{Asked}
use Rattle.ctt_core.specs.declared.event.Event.{Event}
use Rattle.ctt_core.specs.declared.event.Event.TheVariants.{Open, Ask, Commit, Refresh, Abandon}
use Rattle.ctt_core.specs.declared.answer.Answer.{Answer}
use Rattle.ctt_core.specs.declared.answer.Answer.TheVariants.{Opened, Replied, Committed, Refreshed, Stale, Abandoned}
use Rattle.ctt_core.specs.declared.journal.JournalEntry.{JournalEntry}
use Rattle.ctt_core.specs.Runs.{Turn, answered, OpenDraft, begin, turned, is_commit, commits, draft, draft_entry, entered, accepted_of, onto}
use Rattle.ctt_core.specs.OpenDrafts.{turns, is_opening, is_ending, is_renewal, takes_base, call_in, asked_in, NoneIn, LastOf, HasOpen, Enters, AreEntered, DraftsAreTold, AcceptedAreTold}

-- a property of all elements of a list and of one more
pub Each-more : {X : Type 0} (P : X → Type 0) (xs : List X) (x : X) → Each P xs → P x → Each P (xs ++ x ∷ [])
Each-more P [] x h p = (p, tt)
Each-more P (y ∷ ys) x h p = (h.0, Each-more P ys x h.1 p)

pub Each-less : {X : Type 0} (P : X → Type 0) (xs : List X) (x : X) → Each P (xs ++ x ∷ []) → Each P xs × P x
Each-less P [] x h = (tt, h.0)
Each-less P (y ∷ ys) x h = (let rest = Each-less P ys x h.1 in ((h.0, rest.0), rest.1))

-- a draft after a turn that neither opens nor ends it
abbrev pub carried : ℕ → ℕ → Event → Answer → Option OpenDraft → Option OpenDraft
carried p n e a None = None
carried p n e a (Some d) = Some (record { count = cond (is_renewal p e a) n d.count; asked = d.asked ++ call_in p e a })

same_draft : (d : OpenDraft) → Some d ≡ Some (record { count = d.count; asked = d.asked ++ [] })
same_draft d = ap (λ xs. Some (record { count = d.count; asked = xs })) (sym (append-nil d.asked))

same_none : (b : Bool) → cond {A = Option OpenDraft} b None None ≡ None
same_none true = refl
same_none false = refl

asked_if : (b : Bool) (d : OpenDraft) (x : Asked) → cond b (Some (record { count = d.count; asked = d.asked ++ x ∷ [] })) (Some d) ≡ Some (record { count = d.count; asked = d.asked ++ cond b (x ∷ []) [] })
asked_if true d x = refl
asked_if false d x = same_draft d

renewed_if : (b : Bool) (n : ℕ) (d : OpenDraft) → cond b (Some (record { count = n; asked = d.asked })) (Some d) ≡ Some (record { count = cond b n d.count; asked = d.asked ++ [] })
renewed_if true n d = ap (λ xs. Some (record { count = n; asked = xs })) (sym (append-nil d.asked))
renewed_if false n d = same_draft d

-- a turn, by its kind
turned_is : (p n : ℕ) (e : Event) (a : Answer) (o : Option OpenDraft) → turned p n e a o ≡ cond (is_opening p e a) (begin n) (cond (is_ending p e a) None (carried p n e a o))
turned_is p n (Open q) Opened None = refl
turned_is p n (Open q) Opened (Some d) = ap (cond (p == q) (begin n)) (same_draft d)
turned_is p n (Ask q call) (Replied told) None = same_none (p == q)
turned_is p n (Ask q call) (Replied told) (Some d) = asked_if (p == q) d (record { call = call; reply = told })
turned_is p n (Commit q) (Committed m) None = refl
turned_is p n (Commit q) (Committed m) (Some d) = ap (cond (p == q) None) (same_draft d)
turned_is p n (Commit q) (Stale row) None = refl
turned_is p n (Commit q) (Stale row) (Some d) = ap (cond (p == q) None) (same_draft d)
turned_is p n (Refresh q) Refreshed None = same_none (p == q)
turned_is p n (Refresh q) Refreshed (Some d) = renewed_if (p == q) n d
turned_is p n (Refresh q) (Stale row) None = refl
turned_is p n (Refresh q) (Stale row) (Some d) = ap (cond (p == q) None) (same_draft d)
turned_is p n (Abandon q) Abandoned None = refl
turned_is p n (Abandon q) Abandoned (Some d) = ap (cond (p == q) None) (same_draft d)
turned_is p n _ _ None = refl
turned_is p n _ _ (Some d) = same_draft d

-- the kinds of turns that take a snapshot
opening_takes : (p : ℕ) (x : Turn) → is_opening p x.event x.answer ≡ true → takes_base p x.event x.answer ≡ true
opening_takes p x y = ap (λ b. b || is_renewal p x.event x.answer) y

takes_as_renewal : (p : ℕ) (x : Turn) → is_opening p x.event x.answer ≡ false → takes_base p x.event x.answer ≡ is_renewal p x.event x.answer
takes_as_renewal p x n = ap (λ b. b || is_renewal p x.event x.answer) n

-- the turns of a run, oldest first
abbrev pub in_order : List Turn → List Turn
in_order [] = []
in_order (x ∷ past) = in_order past ++ x ∷ []

onto_turns : (past : List Turn) (es : List Event) (answers : List Answer) → in_order (onto past es answers) ≡ in_order past ++ turns es answers
onto_turns past [] answers = sym (append-nil (in_order past))
onto_turns past (e ∷ es) [] = sym (append-nil (in_order past))
onto_turns past (e ∷ es) (a ∷ answers) = onto_turns (answered e a ∷ past) es answers ∙ append_assoc (in_order past) (answered e a ∷ []) (turns es answers)

commits_more : (run : List Turn) (x : Turn) → commits (run ++ x ∷ []) ≡ commits run + is_commit x.answer
commits_more [] x = refl
commits_more (y ∷ run) x = (let rest = commits_more run x in omega (arith, rest))

commits_in_order : (past : List Turn) → commits (in_order past) ≡ commits past
commits_in_order [] = refl
commits_in_order (x ∷ past) = commits_more (in_order past) x ∙ ap (λ n. n + is_commit x.answer) (commits_in_order past)

asked_more : (p : ℕ) (run : List Turn) (x : Turn) → asked_in p (run ++ x ∷ []) ≡ asked_in p run ++ call_in p x.event x.answer
asked_more p [] x = append-nil (call_in p x.event x.answer)
asked_more p (y ∷ run) x = ap (λ xs. call_in p y.event y.answer ++ xs) (asked_more p run x) ∙ sym (append_assoc (call_in p y.event y.answer) (asked_in p run) (call_in p x.event x.answer))

-- a run is empty, or ends in a last turn
ends_in : (run : List Turn) → (run ≡ []) ⊎ ((rest : List Turn) × (x : Turn) × (run ≡ rest ++ x ∷ []))
ends_in [] = inl refl
ends_in (y ∷ run) = elim (ends_in run) [
  | inl none ↦ inr ([], y, ap (λ xs. y ∷ xs) none)
  | inr s ↦ inr (y ∷ s.0, s.1, ap (λ xs. y ∷ xs) s.2)
]

same_ends : (xs ys : List Turn) (x y : Turn) → xs ++ x ∷ [] ≡ ys ++ y ∷ [] → (xs ≡ ys) × (x ≡ y)
same_ends [] [] x y e = (refl, cc)
same_ends [] (b ∷ ys) x y e = absurd (omega (arith, ap length e, length-append ys (y ∷ [])))
same_ends (a ∷ xs) [] x y e = absurd (omega (arith, ap length e, length-append xs (x ∷ [])))
same_ends (a ∷ xs) (b ∷ ys) x y e =
    let first : a ≡ b = cc in
    let behind : xs ++ x ∷ [] ≡ ys ++ y ∷ [] = cc in
    let rest = same_ends xs ys x y behind in
    (ap₂ (λ c cs. c ∷ cs) first rest.0, rest.1)

module _ (kind : Event → Answer → Bool) where
  -- the last turn of a kind, in a run with one more turn
  abbrev pub here : (run : List Turn) (x : Turn) → kind x.event x.answer ≡ true → LastOf kind (run ++ x ∷ [])
  here run x y = record { before = run; turn = x; behind = []; split = refl; of_kind = y; last = tt }

  abbrev pub still : (run : List Turn) (x : Turn) → kind x.event x.answer ≡ false → LastOf kind run → LastOf kind (run ++ x ∷ [])
  still run x n l = record {
    before = l.before;
    turn = l.turn;
    behind = l.behind ++ x ∷ [];
    split = ap (λ xs. xs ++ x ∷ []) l.split ∙ append_assoc l.before (l.turn ∷ l.behind) (x ∷ []);
    of_kind = l.of_kind;
    last = Each-more (λ (t : Turn). kind t.event t.answer ≡ false) l.behind x l.last n;
  }

  none_at : (before : List Turn) (x : Turn) (behind : List Turn) → NoneIn kind (before ++ x ∷ behind) → kind x.event x.answer ≡ false
  none_at [] x behind h = h.0
  none_at (y ∷ before) x behind h = none_at before x behind h.1

  last_or_none : (past : List Turn) → LastOf kind (in_order past) ⊎ NoneIn kind (in_order past)
  last_or_none [] = inr tt
  last_or_none (x ∷ past) = elim (cases_Bool (kind x.event x.answer)) [
    | inl y ↦ inl (here (in_order past) x y)
    | inr n ↦ elim (last_or_none past) [
      | inl l ↦ inl (still (in_order past) x n l)
      | inr none ↦ inr (Each-more (λ (t : Turn). kind t.event t.answer ≡ false) (in_order past) x none n)
    ]
  ]

  -- the last turn of a kind is the added turn, or that of the shorter run
  pub record IsHere (run : List Turn) (x : Turn) (l : LastOf kind (run ++ x ∷ [])) : Type 0 where
    pub of_kind : kind x.event x.answer ≡ true
    pub before : l.before ≡ run
    pub behind : l.behind ≡ []

  pub record IsStill (run : List Turn) (x : Turn) (l : LastOf kind (run ++ x ∷ [])) : Type 0 where
    pub other : kind x.event x.answer ≡ false
    pub one : LastOf kind run
    pub before : l.before ≡ one.before
    pub behind : l.behind ≡ one.behind ++ x ∷ []

  last_is : (run : List Turn) (x : Turn) (l : LastOf kind (run ++ x ∷ [])) → IsHere run x l ⊎ IsStill run x l
  last_is run x l = elim (ends_in l.behind) [
    | inl none ↦ (let both = same_ends run l.before x l.turn (l.split ∙ ap (λ xs. l.before ++ (l.turn ∷ xs)) none) in
        inl (record { of_kind = subst (λ (t : Turn). kind t.event t.answer ≡ true) (sym both.1) l.of_kind; before = sym both.0; behind = none }))
    | inr s ↦ (let both = same_ends run (l.before ++ (l.turn ∷ s.0)) x s.1 (l.split ∙ ap (λ xs. l.before ++ (l.turn ∷ xs)) s.2 ∙ sym (append_assoc l.before (l.turn ∷ s.0) (s.1 ∷ []))) in
        let none = Each-less (λ (t : Turn). kind t.event t.answer ≡ false) s.0 s.1 (subst (NoneIn kind) s.2 l.last) in
        inr (record {
          other = subst (λ (t : Turn). kind t.event t.answer ≡ false) (sym both.1) none.1;
          one = record { before = l.before; turn = l.turn; behind = s.0; split = both.0; of_kind = l.of_kind; last = none.0 };
          before = refl;
          behind = s.2 ∙ ap (λ t. s.0 ++ t ∷ []) (sym both.1);
        }))
  ]

-- the stored draft is the one that follows from the turns
module _ (p : ℕ) (past : List Turn) (x : Turn) where
  went_on : (d : OpenDraft) (b : Bool) → is_renewal p x.event x.answer ≡ b → is_opening p x.event x.answer ≡ false → is_ending p x.event x.answer ≡ false → HasOpen p (in_order past) d →
      HasOpen p (in_order past ++ x ∷ []) (record { count = cond b (commits past) d.count; asked = d.asked ++ call_in p x.event x.answer })
  went_on d true r opens ends h = record {
    opening = still (is_opening p) (in_order past) x opens h.opening;
    unended = Each-more (λ (t : Turn). is_ending p t.event t.answer ≡ false) h.opening.behind x h.unended ends;
    asked = ap (λ xs. xs ++ call_in p x.event x.answer) h.asked ∙ sym (asked_more p h.opening.behind x);
    base = here (takes_base p) (in_order past) x (takes_as_renewal p x opens ∙ r);
    count = sym (commits_in_order past);
  }
  went_on d false r opens ends h = record {
    opening = still (is_opening p) (in_order past) x opens h.opening;
    unended = Each-more (λ (t : Turn). is_ending p t.event t.answer ≡ false) h.opening.behind x h.unended ends;
    asked = ap (λ xs. xs ++ call_in p x.event x.answer) h.asked ∙ sym (asked_more p h.opening.behind x);
    base = still (takes_base p) (in_order past) x (takes_as_renewal p x opens ∙ r) h.base;
    count = h.count;
  }

  told_next : (o : Option OpenDraft) (d : OpenDraft) (opens ends : Bool) → ((e : OpenDraft) → o ≡ Some e → HasOpen p (in_order past) e) → is_opening p x.event x.answer ≡ opens → is_ending p x.event x.answer ≡ ends →
      cond opens (begin (commits past)) (cond ends None (carried p (commits past) x.event x.answer o)) ≡ Some d → HasOpen p (in_order past ++ x ∷ []) d
  told_next o d true ends told y n e =
      let is : record { count = commits past; asked = [] } ≡ d = cc in
      subst (HasOpen p (in_order past ++ x ∷ [])) is (record {
        opening = here (is_opening p) (in_order past) x y;
        unended = tt;
        asked = refl;
        base = here (takes_base p) (in_order past) x (opening_takes p x y);
        count = sym (commits_in_order past);
      })
  told_next o d false true told y n e = cc
  told_next None d false false told y n e = cc
  told_next (Some b) d false false told y n e =
      let is : record { count = cond (is_renewal p x.event x.answer) (commits past) b.count; asked = b.asked ++ call_in p x.event x.answer } ≡ d = cc in
      subst (HasOpen p (in_order past ++ x ∷ [])) is (went_on b (is_renewal p x.event x.answer) refl y n (told b refl))

  -- the draft that follows from the turns is the stored one
  kept_on : (d b : OpenDraft) → is_opening p x.event x.answer ≡ false → is_ending p x.event x.answer ≡ false → draft p past ≡ Some b → d.asked ≡ b.asked ++ call_in p x.event x.answer → d.count ≡ cond (is_renewal p x.event x.answer) (commits past) b.count → draft p (x ∷ past) ≡ Some d
  kept_on d b opens ends is asked count =
      turned_is p (commits past) x.event x.answer (draft p past)
      ∙ ap (λ c. cond c (begin (commits past)) (cond (is_ending p x.event x.answer) None (carried p (commits past) x.event x.answer (draft p past)))) opens
      ∙ ap (λ c. cond c None (carried p (commits past) x.event x.answer (draft p past))) ends
      ∙ ap (carried p (commits past) x.event x.answer) is
      ∙ ap₂ (λ n xs. Some (record { count = n; asked = xs })) (sym count) (sym asked)

  kept_here : (d : OpenDraft) (h : HasOpen p (in_order past ++ x ∷ []) d) → IsHere (is_opening p) (in_order past) x h.opening → draft p (x ∷ past) ≡ Some d
  kept_here d h is =
      let before : h.base.before ≡ in_order past = elim (last_is (takes_base p) (in_order past) x h.base) [
        | inl new ↦ new.before
        | inr old ↦ absurd (true≢false (sym (opening_takes p x is.of_kind) ∙ old.other))
      ] in
      turned_is p (commits past) x.event x.answer (draft p past)
      ∙ ap (λ c. cond c (begin (commits past)) (cond (is_ending p x.event x.answer) None (carried p (commits past) x.event x.answer (draft p past)))) is.of_kind
      ∙ ap₂ (λ n xs. Some (record { count = n; asked = xs })) (sym (h.count ∙ ap commits before ∙ commits_in_order past)) (sym (h.asked ∙ ap (asked_in p) is.behind))

  kept_still : (d : OpenDraft) (h : HasOpen p (in_order past ++ x ∷ []) d) → IsStill (is_opening p) (in_order past) x h.opening → ((b : OpenDraft) → HasOpen p (in_order past) b → draft p past ≡ Some b) → draft p (x ∷ past) ≡ Some d
  kept_still d h is kept =
      let ends = Each-less (λ (t : Turn). is_ending p t.event t.answer ≡ false) is.one.behind x (subst (NoneIn (is_ending p)) is.behind h.unended) in
      let asked : d.asked ≡ asked_in p is.one.behind ++ call_in p x.event x.answer = h.asked ∙ ap (asked_in p) is.behind ∙ asked_more p is.one.behind x in
      elim (last_is (takes_base p) (in_order past) x h.base) [
        | inl new ↦ elim (last_or_none (takes_base p) past) [
          | inl l ↦ kept_on d (record { count = commits l.before; asked = asked_in p is.one.behind }) is.other ends.1 (kept _ (record { opening = is.one; unended = ends.0; asked = refl; base = l; count = refl })) asked
              (h.count ∙ ap commits new.before ∙ commits_in_order past ∙ sym (ap (λ b. cond b (commits past) (commits l.before)) (sym (takes_as_renewal p x is.other) ∙ new.of_kind)))
          | inr none ↦ absurd (true≢false (sym (opening_takes p is.one.turn is.one.of_kind) ∙ none_at (takes_base p) is.one.before is.one.turn is.one.behind (subst (NoneIn (takes_base p)) is.one.split none)))
        ]
        | inr old ↦ kept_on d (record { count = commits old.one.before; asked = asked_in p is.one.behind }) is.other ends.1 (kept _ (record { opening = is.one; unended = ends.0; asked = refl; base = old.one; count = refl })) asked
            (h.count ∙ ap commits old.before ∙ sym (ap (λ b. cond b (commits past) (commits old.one.before)) (sym (takes_as_renewal p x is.other) ∙ old.other)))
      ]

is_told : (p : ℕ) (past : List Turn) (d : OpenDraft) → draft p past ≡ Some d → HasOpen p (in_order past) d
is_told p [] d e = cc
is_told p (x ∷ past) d e =
    told_next p past x (draft p past) d (is_opening p x.event x.answer) (is_ending p x.event x.answer) (λ b. is_told p past b) refl refl (sym (turned_is p (commits past) x.event x.answer (draft p past)) ∙ e)

is_kept : (p : ℕ) (past : List Turn) (d : OpenDraft) → HasOpen p (in_order past) d → draft p past ≡ Some d
is_kept p [] d h = absurd (omega (arith, ap length h.opening.split, length-append h.opening.before (h.opening.turn ∷ h.opening.behind)))
is_kept p (x ∷ past) d h = elim (last_is (is_opening p) (in_order past) x h.opening) [
  | inl new ↦ kept_here p past x d h new
  | inr old ↦ kept_still p past x d h old (λ b. is_kept p past b)
]

pub drafts_are_told : DraftsAreTold
drafts_are_told p es answers d =
    let same : in_order (onto [] es answers) ≡ turns es answers = onto_turns [] es answers in
    (λ e. subst (λ run. HasOpen p run d) same (is_told p (onto [] es answers) d e), λ h. is_kept p (onto [] es answers) d (subst (λ run. HasOpen p run d) (sym same) h))

-- the accepted history is what the turns add
none_some : (d : OpenDraft) → None ≡ Some d → ⊥
none_some d e = cc

commit_enters : (p n : ℕ) (past : List Turn) (more : List JournalEntry) (o : Option OpenDraft) → draft p past ≡ o → Enters (in_order past) (Commit p) (Committed n) (draft_entry p o ++ more) more
commit_enters p n past more (Some d) is = inl (d, is_told p past d is, refl)
commit_enters p n past more None is = inr (λ d h. none_some d (sym is ∙ is_kept p past d h), refl)

enters : (past : List Turn) (e : Event) (a : Answer) (more : List JournalEntry) → Enters (in_order past) e a (entered e a past ++ more) more
enters past (Commit p) (Committed n) more = commit_enters p n past more (draft p past) refl
enters past _ _ more = refl

entered_behind : (past : List Turn) (es : List Event) (answers : List Answer) → (h : List JournalEntry) × (accepted_of (onto past es answers) ≡ accepted_of past ++ h) × AreEntered (in_order past) (turns es answers) h
entered_behind past [] answers = ([], sym (append-nil (accepted_of past)), refl)
entered_behind past (e ∷ es) [] = ([], sym (append-nil (accepted_of past)), refl)
entered_behind past (e ∷ es) (a ∷ answers) =
    let rest = entered_behind (answered e a ∷ past) es answers in
    (entered e a past ++ rest.0, rest.1 ∙ append_assoc (accepted_of past) (entered e a past) rest.0, (rest.0, enters past e a rest.0, rest.2))

pub accepted_are_told : AcceptedAreTold
accepted_are_told es answers = (let all = entered_behind [] es answers in subst (AreEntered [] (turns es answers)) (sym all.1) all.2)
