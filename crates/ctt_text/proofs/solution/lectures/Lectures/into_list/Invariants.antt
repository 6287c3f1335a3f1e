use Rattle.std.proofs.Common.{◌≡◌, ◌++◌, drop}
use Rattle.ctt_problem.specs.Problem.{slot_count}
use Rattle.ctt_text.specs.Lectures.{listed}
use Rattle.ctt_text.proofs.solution.lectures.Lectures.into_list.Given as goal

-- the lectures so far, and those of the places that are left
abbrev pub invariant-loop-place : goal.invariant-loop-place
invariant-loop-place l = l.list.items ++ listed (slot_count l.fn.self.problem) l.place (drop l.place l.cell-items) ≡ l.fn.self.list
