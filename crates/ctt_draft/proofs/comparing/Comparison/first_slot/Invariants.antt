use Rattle.std.proofs.Common.{◌≡◌, ◌≤◌, ◌-◌, None}
use Rattle.std.specs.List.{find}
use Rattle.ctt_problem.specs.Lists.{below}
use Rattle.ctt_problem.specs.Problem.{slot_count}
use Rattle.ctt_edits.specs.RowSets.{has_slot}
use Rattle.ctt_edits.specs.declared.row.Row.TheVariants.{Slot}
use Rattle.ctt_draft.specs.Drafts.{differs}
use Rattle.ctt_draft.specs.Comparisons.{base_of}
use Rattle.ctt_draft.proofs.comparing.Comparison.first_slot.Given as goal

abbrev pub invariant-loop-slot : goal.invariant-loop-slot
invariant-loop-slot g l = record {
  none : find (λ n. differs (base_of l.self) l.self.sheet (Slot n)) (below (has_slot l.rows) l.from) ≡ None;
  within : l.from ≤ slot_count l.self.problem;
}

abbrev pub decreases-loop-slot : goal.decreases-loop-slot
decreases-loop-slot g l = slot_count l.self.problem - l.from
