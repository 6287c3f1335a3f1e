-- How a commit changes the journal and its timetable.
use Rattle.std.proofs.Common.{◌≡◌, ℕ, List, [], ◌∷◌, ◌++◌, Option, Some, sym, ap, ◌∙◌, subst}
use Rattle.std.specs.Prelude.{IsSomeAnd}
use Rattle.ctt_problem.specs.Problem.{Problem}
use Rattle.ctt_problem.specs.declared.placed.Placed.{Placed}
use Rattle.ctt_rules.specs.Hard.{Lawful}
use Rattle.ctt_board.specs.Changes.{apply_all, ChangesFit}
use Rattle.ctt_board.specs.declared.cell.Cell.{Cell}
use Rattle.ctt_draft.specs.Drafts.{calls_of, replies_in, replies, whole, changes}
use Rattle.ctt_draft.specs.DraftValues.{DraftValue, IsTold, Settles}
use Rattle.ctt_core.specs.Runs.{after, Legal}
use Rattle.ctt_core.specs.declared.journal.JournalEntry.{JournalEntry}
use Rattle.ctt_core.proofs.RunLemmas.{after-push}
use Rattle.ctt_desk.specs.Histories.{Standing, entry_of}
use Rattle.ctt_desk.specs.Published.{Leads}

-- the replies in a draft that can be settled on t are those that its calls get on t
pub told_now : (i : Problem) (t : List Placed) (d : DraftValue) → d.problem ≡ i → Settles d t → IsTold d.problem d.base d.asked → replies_in d.asked ≡ replies i t (calls_of d.asked)
told_now i t d of settles told = told.told ∙ sym settles.same.replies_same ∙ ap (λ x. replies x t (calls_of d.asked)) of

-- its changes lead from the opening after the journal h to that after the longer journal f
pub leads_more : (i : Problem) (t0 : List Placed) (h f : List JournalEntry) (p : ℕ) (d : DraftValue) (made : List (List Cell)) → d.problem ≡ i → Settles d (after i t0 h) → made ≡ changes d.problem d.base (calls_of d.asked) → f ≡ h ++ entry_of p d.asked ∷ [] → Leads i t0 made h f
leads_more i t0 h f p d made of settles is longer =
    let now : List Placed = after i t0 h in
    let calls = calls_of d.asked in
    let leaves : apply_all made now ≡ whole i now calls = ap (λ xs. apply_all xs now) is ∙ sym settles.same.left ∙ ap (λ x. whole x now calls) of in
    record {
      grows = (entry_of p d.asked ∷ [], sym longer);
      fit = subst (λ x. ChangesFit x made now) of (subst (λ (xs : List (List Cell)). ChangesFit d.problem xs now) (sym is) settles.fit);
      ends = leaves ∙ sym (after-push i t0 h (entry_of p d.asked)) ∙ ap (after i t0) (sym longer);
    }

-- a timetable that is the opening after the journal h becomes the opening after f by these changes
pub stands_more : (i j k : Problem) (t0 t u : List Placed) (h f : List JournalEntry) (made : List (List Cell)) → Standing i j t0 t h → Leads i t0 made h f → Legal i t0 f → k ≡ j → u ≡ apply_all made t → Lawful k u → Standing i k t0 u f
stands_more i j k t0 t u h f made s leads legal same is lawful = record {
  same = same ∙ s.same;
  legal = legal;
  list = is ∙ ap (apply_all made) s.list ∙ leads.ends;
  lawful = subst (λ x. Lawful x u) (same ∙ s.same) lawful;
}

pub and_some : {A : Type 0} (P : A → Type 0) (o : Option A) (x : A) → o ≡ Some x → P x → IsSomeAnd o P
and_some {A} P o x is h = let Q : Option A → Type 0 = λ p. IsSomeAnd p P in subst Q (sym is) h
