-- What a planner asks of a proposal.
use Rattle.std.specs.Prelude.{◌≡◌, ◌≤◌, ◌<◌, ℕ, true, List, Option, Some, None}
use Rattle.ctt_problem.specs.BitRows.{BitTable, is_marked_in}
use Rattle.ctt_problem.specs.Problem.{Problem, course_count, slot_count}
use Rattle.ctt_problem.specs.declared.placed.Placed.{Placed}
use Rattle.ctt_rules.specs.Hard.{Lawful}
use Rattle.ctt_board.specs.Changes.{room_at}
use Rattle.ctt_search.specs.Scores.{score, changes, is_at_most, IsSmallScore}
use Rattle.ctt_search.specs.declared.aim.Aim.{Aim}
use Rattle.ctt_search.specs.declared.score.Score.{Score}

-- the lecture of course c in slot s of the start, if there is one and it is pinned, stands in t
-- where it stood
abbrev pub KeepsPin : BitTable → List Placed → List Placed → ℕ → ℕ → Type 0
KeepsPin pins start t c s = (r : ℕ) → is_marked_in pins s c ≡ true → room_at c s start ≡ Some r → room_at c s t ≡ Some r

-- so does each pinned lecture of the course
abbrev pub KeepsPinsOf : Problem → BitTable → List Placed → List Placed → ℕ → Type 0
KeepsPinsOf i pins start t c = (s : ℕ) → s < slot_count i → KeepsPin pins start t c s

-- each lecture of the start that is pinned, by its slot and course, stands in t where it stood
abbrev pub KeepsPins : Problem → BitTable → List Placed → List Placed → Type 0
KeepsPins i pins start t = (c : ℕ) → c < course_count i → KeepsPinsOf i pins start t c

-- each lecture of the start stands in t where it stood
abbrev pub KeepsAll : Problem → List Placed → List Placed → Type 0
KeepsAll i start t = (c s r : ℕ) → c < course_count i → s < slot_count i → room_at c s start ≡ Some r → room_at c s t ≡ Some r

-- n is at most the bound, if there is one
abbrev pub IsWithin : Option ℕ → ℕ → Type 0
IsWithin None n = Unit {0}
IsWithin (Some most) n = n ≤ most

-- the timetable t may be proposed in place of the start: it is lawful, keeps the pinned lectures
-- where they stood, is worth at least as much, and changes no more lectures than the bound allows
pub record IsProposal (i : Problem) (aim : Aim) (pins : BitTable) (most : Option ℕ) (start t : List Placed) : Type 0 where
  pub lawful : Lawful i t
  pub pinned : KeepsPins i pins start t
  pub no_worse : is_at_most aim (score i start t) (score i start start) ≡ true
  pub few : IsWithin most (changes i start t)

-- t, of the problem j, which is i, may be proposed in place of the start, and s is its score
pub record IsFound (i j : Problem) (aim : Aim) (pins : BitTable) (most : Option ℕ) (start t : List Placed) (s : Score) : Type 0 where
  pub same : j ≡ i
  pub proposal : IsProposal i aim pins most start t
  pub scored : s ≡ score i start t
  pub small : IsSmallScore s
