-- The start may be proposed in place of itself, and pins on all its places keep each lecture.
use Rattle.std.proofs.Common.{◌≡◌, ℕ, Bool, true, false, List, Option, Some, None, ◌∙◌, sym, ap, subst, arith}
use Rattle.std.specs.Bool.{OnTrue}
use Rattle.ctt_problem.specs.BitRows.{BitTable}
use Rattle.ctt_problem.specs.Problem.{Problem}
use Rattle.ctt_problem.specs.declared.placed.Placed.{Placed}
use Rattle.ctt_rules.specs.Hard.{Lawful}
use Rattle.ctt_search.specs.Scores.{score, changes, IsSmallScore}
use Rattle.ctt_search.specs.Wishes.{IsWithin, IsProposal, IsFound}
use Rattle.ctt_search.specs.declared.aim.Aim.{Aim}
use Rattle.ctt_search.specs.declared.score.Score.{Score}
use Rattle.ctt_search.proofs.ScoreLemmas.{no_changes, at_most_itself}

-- what holds if a test is true
pub holds : (b : Bool) (P : Type 0) → OnTrue b P → b ≡ true → P
holds true P h e = h
holds false P h e = cc

pub then : (b : Bool) (P Q : Type 0) → OnTrue b P → (P → Q) → OnTrue b Q
then true P Q h f = f h
then false P Q h f = tt

none_within : (most : Option ℕ) (n : ℕ) → n ≡ 0 → IsWithin most n
none_within None n e = tt
none_within (Some m) n e = omega (arith, e)

pub start_itself : (i : Problem) (aim : Aim) (pins : BitTable) (most : Option ℕ) (t : List Placed) → Lawful i t → IsProposal i aim pins most t t
start_itself i aim pins most t h = record {
  lawful = h;
  pinned = λ c lt s ls r marked there. there;
  no_worse = at_most_itself aim (score i t t);
  few = none_within most (changes i t t) (no_changes i t);
}

pub start_found : (i j : Problem) (aim : Aim) (pins : BitTable) (most : Option ℕ) (t u : List Placed) (s : Score) → Lawful i t → j ≡ i → u ≡ t → s ≡ score i t t → IsSmallScore s → IsFound i j aim pins most t u s
start_found i j aim pins most t u s h same is scored small =
    subst (λ v. IsFound i j aim pins most t v s) (sym is)
    (record { same = same; proposal = start_itself i aim pins most t h; scored = scored; small = small })

-- a copy of a sheet that may be proposed
pub newly_found : (i j k : Problem) (aim : Aim) (pins : BitTable) (most : Option ℕ) (start t u : List Placed) (s : Score) → i ≡ j → k ≡ j → u ≡ t → IsProposal j aim pins most start t → s ≡ score j start t → IsSmallScore s → IsFound i k aim pins most start u s
newly_found i j k aim pins most start t u s same copied listed proposal scored small =
    subst (λ v. IsFound i k aim pins most start v s) (sym listed)
    (record {
      same = copied ∙ sym same;
      proposal = subst (λ x. IsProposal x aim pins most start t) (sym same) proposal;
      scored = scored ∙ ap (λ x. score x start t) (sym same);
      small = small;
    })
