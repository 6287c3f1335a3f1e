use Rattle.std.proofs.Common.{◌≡◌, ◌<◌, ◌==◌, ◌&&◌, ℕ, take}
use Rattle.std.specs.List.{list_any}
use Rattle.ctt_problem.specs.declared.placed.Placed.{Placed}
use Rattle.ctt_rules.specs.Windows.{has_bit, stands_at, word_of}
use Rattle.ctt_rules.proofs.compactness.window.Given as goal

abbrev pub invariant-loop-lecture : goal.invariant-loop-lecture
invariant-loop-lecture l = (c place : ℕ) → place < 64 → has_bit (word_of l.words c) place ≡ list_any (λ (x : Placed). x.course == c && stands_at l.instance l.first place x) (take l.lecture-index l.timetable)
