-- Each step preserves the protocol of the published copies.
use Rattle.std.proofs.Common.{◌≡◌, ◌≢◌, ℕ, List, [], ◌∷◌, ◌++◌, set, refl, sym, subst, ⊎_elim}
use mathlib.Core.List.{IsPrefix}
use mathlib.Core.Option.{some, some-ne-none}
use lib.ListN.{get_elem?}
use Rattle.atomic_table.proofs.Lists.{at_set, at_snoc}
use Rattle.ctt_problem.specs.Problem.{Problem}
use Rattle.ctt_problem.specs.declared.placed.Placed.{Placed}
use Rattle.ctt_core.specs.declared.journal.JournalEntry.{JournalEntry}
use Rattle.ctt_desk.specs.declared.shown.View.{View}
use Rattle.ctt_desk.specs.Published.{IsAfterHistory, Keeps, SeesPublished, seeing}
use Rattle.ctt_desk.proofs.PrefixLemmas.{prefix_self, prefix_trans}

-- a step of one seat, in which the published history grows or stays the same
pub sees : (i : Problem) (opening : List Placed) (seat : ℕ) (v : View) (j j' : Problem) (t t' : List Placed) (h h' : List JournalEntry) → IsPrefix h h' → IsAfterHistory i opening j' t' h' → (views : List View) → Keeps i opening j t h views → get_elem? views seat ≡ some v
    → (w : View) × Keeps i opening j' t' h' (set views seat w) × SeesPublished i opening v j' t' h' w
sees i opening seat v j j' t t' h h' grows right views kept at = (
  seeing h',
  record {
    right = right;
    seen = λ n u e. ⊎_elim
        (λ (x : (n ≡ seat) × (seeing h' ≡ u)). subst (λ (y : View). IsPrefix y.seen h') x.1 (prefix_self h'))
        (λ (x : (n ≢ seat) × (get_elem? views n ≡ some u)). prefix_trans u.seen h h' (kept.seen n u x.1) grows)
        (at_set views seat n (seeing h') u e);
  },
  record { grows = prefix_trans v.seen h h' (kept.seen seat v at) grows; all = refl; right = right },
)

-- a new seat, which has seen nothing
pub comes : (i : Problem) (opening : List Placed) (j : Problem) (t : List Placed) (h : List JournalEntry) (views : List View) → Keeps i opening j t h views → Keeps i opening j t h (views ++ seeing [] ∷ [])
comes i opening j t h views kept = record {
  right = kept.right;
  seen = λ n u e. ⊎_elim (λ (x : get_elem? views n ≡ some u). kept.seen n u x) (λ (x : seeing [] ≡ u). subst (λ (y : View). IsPrefix y.seen h) x (h, refl)) (at_snoc views (seeing []) u n e);
}

-- the first seat
pub begins : (i : Problem) (opening : List Placed) (j : Problem) (t : List Placed) (h : List JournalEntry) → IsAfterHistory i opening j t h → Keeps i opening j t h (seeing [] ∷ [])
begins i opening j t h right = comes i opening j t h [] (record { right = right; seen = λ n u e. absurd (some-ne-none u (sym e)) })
