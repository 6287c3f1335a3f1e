-- A desk that answers items one after another.
use Rattle.std.proofs.Common.{◌≡◌, ℕ, List, [], ◌∷◌, ◌++◌, length, take, Option, Some, None, refl, sym, subst, ap, ◌∙◌, inl, inr, append_assoc, append-nil, drop}
use Rattle.std.proofs.lemmas.List.{take-append-drop}
use Rattle.std.specs.Io.KnownBytes.{Appends}
use Rattle.std.proofs.KnownBytes.{Appends-nil, Appends-trans}
use Rattle.std.proofs.Math.Seq.{take-append_seam}
use Rattle.ctt_problem.specs.Problem.{Problem, IsProblem}
use Rattle.ctt_problem.specs.declared.placed.Placed.{Placed}
use Rattle.ctt_rules.specs.Hard.{Lawful}
use Rattle.ctt_core.specs.declared.event.Event.{Event}
use Rattle.ctt_core.specs.declared.answer.Answer.{Answer}
use Rattle.ctt_core.specs.declared.answer.Answer.TheVariants.{NoMemory}
use Rattle.ctt_core.specs.Runs.{Turn, reference_answer, IsRight, EventFits}
use Rattle.ctt_core.specs.Desks.{DeskValue, SameDesk}
use Rattle.ctt_core.specs.Laws.{Stands}
use Rattle.ctt_script.specs.Entries.{AnswerFits}
use Rattle.ctt_script.specs.AnswerText.{answer_words, bad_line, next_turn, answers_after, run_after}
use Rattle.ctt_files.specs.Output.{WritesOut, AppendsFront}
use Rattle.ctt_script.specs.Answering.{IsAtRun, PlaysItems, Answering, Wrote, WroteFront}
use Rattle.ctt_script.specs.ScriptText.{items_of}
use Rattle.ctt_line.specs.Lines.{line}
use Rattle.ctt_script.proofs.AnswersFit.{answer_fits}
use Rattle.ctt_script.proofs.ScriptLaws.{items_then}

-- a desk that has answered an event
module _ (v w : DeskValue) (event : Event) (answer : Answer) (same : SameDesk v w) (goes : (past : List Turn) → Stands v past → Stands w (record { event = event; answer = answer } ∷ past)) (given : answer ≡ NoMemory → ⊥) where
  answer_is : (past : List Turn) → Stands v past → answer ≡ reference_answer v.problem v.opening past event
  answer_is past stands = by (subst (λ i. IsRight i w.opening past event answer) same.problem (goes past stands).right.0)
    where
      by : IsRight v.problem w.opening past event answer → answer ≡ reference_answer v.problem v.opening past event
      by (inl e) = e ∙ ap (λ t. reference_answer v.problem t past event) same.opening
      by (inr m) = absurd (given m.0)

  -- the answer can be written
  pub answer_can : (n : ℕ) → IsProblem v.problem → Lawful v.problem v.opening → IsAtRun v → n ≡ length v.drafts → EventFits v.problem n event → AnswerFits v.problem answer
  answer_can n is lawful at count fits =
      let stands : Stands v at.0 = at.1 in
      subst (AnswerFits v.problem) (sym (answer_is at.0 stands)) (answer_fits v.problem is v.opening lawful (length v.drafts) at.0 event stands.fit stands.right (subst (λ k. EventFits v.problem k event) count fits))

  -- the desk has answered the event, and the text has grown by a line
  pub event_answered : (old new : List ℕ) → new ≡ old ++ line (answer_words v.problem answer) → PlaysItems v w old new (Some event ∷ [])
  event_answered old new e = record {
    same = same;
    goes_on = λ past stands. subst (λ a. Stands w (record { event = event; answer = a } ∷ past)) (answer_is past stands) (goes past stands);
    grown = λ past stands. e ∙ ap (λ a. old ++ line (answer_words v.problem a)) (answer_is past stands) ∙ ap (λ bs. old ++ bs) (sym (append-nil (line (answer_words v.problem (reference_answer v.problem v.opening past event)))));
  }

-- the answers to items, and to items after them
pub answers_join : (i : Problem) (t0 : List Placed) (past : List Turn) (xs ys : List (Option Event)) → answers_after i t0 past (xs ++ ys) ≡ answers_after i t0 past xs ++ answers_after i t0 (run_after i t0 past xs) ys
answers_join i t0 past [] ys = refl
answers_join i t0 past (None ∷ xs) ys = ap (λ bs. bad_line ++ bs) (answers_join i t0 past xs ys) ∙ sym (append_assoc bad_line (answers_after i t0 past xs) (answers_after i t0 (run_after i t0 past xs) ys))
answers_join i t0 past (Some e ∷ xs) ys =
    let next : List Turn = next_turn i t0 past e ∷ past in
    let first : List ℕ = line (answer_words i (reference_answer i t0 past e)) in
    ap (λ bs. first ++ bs) (answers_join i t0 next xs ys) ∙ sym (append_assoc first (answers_after i t0 next xs) (answers_after i t0 (run_after i t0 next xs) ys))

pub runs_join : (i : Problem) (t0 : List Placed) (past : List Turn) (xs ys : List (Option Event)) → run_after i t0 past (xs ++ ys) ≡ run_after i t0 (run_after i t0 past xs) ys
runs_join i t0 past [] ys = refl
runs_join i t0 past (None ∷ xs) ys = runs_join i t0 past xs ys
runs_join i t0 past (Some e ∷ xs) ys = runs_join i t0 (next_turn i t0 past e ∷ past) xs ys

same_desk : (v : DeskValue) → SameDesk v v
same_desk v = record { problem = refl; opening = refl; planners = refl }

same_on : (v w u : DeskValue) → SameDesk v w → SameDesk w u → SameDesk v u
same_on v w u h k = record { problem = k.problem ∙ h.problem; opening = k.opening ∙ h.opening; planners = k.planners ∙ h.planners }

-- no item
pub none_answered : (v : DeskValue) (old : List ℕ) → PlaysItems v v old old []
none_answered v old = record { same = same_desk v; goes_on = λ past stands. stands; grown = λ past stands. sym (append-nil old) }

-- items, and items after them
pub answered_on : (v w u : DeskValue) (a b c : List ℕ) (xs ys : List (Option Event)) → PlaysItems v w a b xs → PlaysItems w u b c ys → PlaysItems v u a c (xs ++ ys)
answered_on v w u a b c xs ys h k = record {
  same = same_on v w u h.same k.same;
  goes_on = λ past stands.
      let next : List Turn = run_after v.problem v.opening past xs in
      subst (λ turns. Stands u turns) (goes next ∙ sym (runs_join v.problem v.opening past xs ys)) (k.goes_on next (h.goes_on past stands));
  grown = λ past stands.
      let next : List Turn = run_after v.problem v.opening past xs in
      k.grown next (h.goes_on past stands) ∙ ap (λ bs. b ++ bs) (says next) ∙ ap (λ bs. bs ++ answers_after v.problem v.opening next ys) (h.grown past stands)
      ∙ append_assoc a (answers_after v.problem v.opening past xs) (answers_after v.problem v.opening next ys) ∙ ap (λ bs. a ++ bs) (sym (answers_join v.problem v.opening past xs ys));
}
  where
    goes : (next : List Turn) → run_after w.problem w.opening next ys ≡ run_after v.problem v.opening next ys
    goes next = ap (λ i. run_after i w.opening next ys) h.same.problem ∙ ap (λ t. run_after v.problem t next ys) h.same.opening

    says : (next : List Turn) → answers_after w.problem w.opening next ys ≡ answers_after v.problem v.opening next ys
    says next = ap (λ i. answers_after i w.opening next ys) h.same.problem ∙ ap (λ t. answers_after v.problem t next ys) h.same.opening

-- a desk that was at a run and has answered items is at a run
pub at_run : (v w : DeskValue) (old new : List ℕ) (items : List (Option Event)) → IsAtRun v → PlaysItems v w old new items → IsAtRun w
at_run v w old new items at h = (run_after v.problem v.opening at.0 items, h.goes_on at.0 at.1)

-- the same after another text
pub answered_behind : (v w : DeskValue) (front old new : List ℕ) (items : List (Option Event)) → PlaysItems v w old new items → PlaysItems v w (front ++ old) (front ++ new) items
answered_behind v w front old new items h = record {
  same = h.same;
  goes_on = h.goes_on;
  grown = λ past stands. ap (λ bs. front ++ bs) (h.grown past stands) ∙ sym (append_assoc front old (answers_after v.problem v.opening past items));
}

module _ (v : DeskValue) (all : List (List ℕ)) (before : Option (List ℕ)) where
  -- no line was answered
  pub begins : (kept : List ℕ) → kept ≡ [] → Answering v v all all before before kept
  begins kept e = record {
    done = [];
    written = [];
    lines = refl;
    answered = subst (λ bs. PlaysItems v v [] bs []) (sym e) (none_answered v []);
    taken = Appends-nil before;
  }

  -- one more line was answered
  pub one_more_line : (w u : DeskValue) (taken : Option (List ℕ)) (line : List ℕ) (left rest : List (List ℕ)) (kept grown : List ℕ) → left ≡ line ∷ rest → Answering v w all left before taken kept → PlaysItems w u kept grown (items_of v.problem (line ∷ [])) → Answering v u all rest before taken grown
  one_more_line w u taken line left rest kept grown e h k = record {
    done = h.done ++ items_of v.problem (line ∷ []);
    written = h.written;
    lines = h.lines ∙ ap (λ ls. h.done ++ items_of v.problem ls) e ∙ ap (λ xs. h.done ++ xs) (items_then v.problem line rest) ∙ sym (append_assoc h.done (items_of v.problem (line ∷ [])) (items_of v.problem rest));
    answered = answered_on v w u [] (h.written ++ kept) (h.written ++ grown) h.done (items_of v.problem (line ∷ [])) h.answered (answered_behind w u h.written kept grown (items_of v.problem (line ∷ [])) k);
    taken = h.taken;
  }

  module _ (w : DeskValue) (left : List (List ℕ)) (taken later : Option (List ℕ)) (kept : List ℕ) (h : Answering v w all left before taken kept) where
    -- some answers were written
    pub more_written : (rest : List ℕ) → WritesOut taken later kept rest → Answering v w all left before later rest
    more_written rest k = record {
      done = h.done;
      written = h.written ++ k.prefix;
      lines = h.lines;
      answered = subst (λ bs. PlaysItems v w [] bs h.done) (ap (λ bs. h.written ++ bs) k.all ∙ sym (append_assoc h.written k.prefix rest)) h.answered;
      taken = Appends-trans before taken later h.written k.prefix h.taken k.taken;
    }

    -- if a write fails, or nothing more is done, a prefix was written
    pub front_written : AppendsFront taken later kept → WroteFront v (items_of v.problem all) before later
    front_written k past stands =
        let some : List ℕ = take k.0 kept in
        let front : List ℕ = h.written ++ some in
        let answers : List Turn → List (Option Event) → List ℕ = λ turns items. answers_after v.problem v.opening turns items in
        let rest : List ℕ = drop k.0 kept ++ answers (run_after v.problem v.opening past h.done) (items_of v.problem left) in
        let said : h.written ++ kept ≡ answers past h.done = h.answered.grown past stands in
        let split : h.written ++ kept ≡ front ++ drop k.0 kept = ap (λ bs. h.written ++ bs) (sym (take-append-drop k.0 kept)) ∙ sym (append_assoc h.written some (drop k.0 kept)) in
        let whole : answers past (items_of v.problem all) ≡ front ++ rest =
        ap (answers past) h.lines ∙ answers_join v.problem v.opening past h.done (items_of v.problem left)
        ∙ ap (λ bs. bs ++ answers (run_after v.problem v.opening past h.done) (items_of v.problem left)) (sym said ∙ split)
        ∙ append_assoc front (drop k.0 kept) (answers (run_after v.problem v.opening past h.done) (items_of v.problem left)) in
        let cut : take (length front) (answers past (items_of v.problem all)) ≡ front = ap (take (length front)) whole ∙ take-append_seam front rest in
        (length front, subst (Appends before later) (sym cut) (Appends-trans before taken later h.written some h.taken k.1))

  -- all lines were answered, and all answers written
  pub all_written : (w : DeskValue) (left : List (List ℕ)) (taken later : Option (List ℕ)) (kept : List ℕ) → left ≡ [] → Answering v w all left before taken kept → Appends taken later kept → Wrote v w (items_of v.problem all) before later
  all_written w left taken later kept none h k = record {
    text = h.written ++ kept;
    taken = Appends-trans before taken later h.written kept h.taken k;
    answered = subst (λ items. PlaysItems v w [] (h.written ++ kept) items) (sym (h.lines ∙ ap (λ ls. h.done ++ items_of v.problem ls) none ∙ append-nil h.done)) h.answered;
  }

  -- the desk is at a run, and belongs to the instance
  pub still_at_run : (w : DeskValue) (left : List (List ℕ)) (taken : Option (List ℕ)) (kept : List ℕ) → IsAtRun v → Answering v w all left before taken kept → IsAtRun w
  still_at_run w left taken kept at h = at_run v w [] (h.written ++ kept) h.done at h.answered
