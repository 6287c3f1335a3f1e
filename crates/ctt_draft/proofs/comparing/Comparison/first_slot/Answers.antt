use Rattle.std.proofs.Common.{◌≡◌, ◌+◌, ◌∙◌, None, sym, subst, arith}
use Rattle.std.specs.List.{find}
use Rattle.ctt_problem.specs.Lists.{below}
use Rattle.ctt_problem.specs.Marks.{IsLeast}
use Rattle.ctt_problem.specs.Problem.{slot_count}
use Rattle.ctt_edits.specs.RowSets.{has_slot, between}
use Rattle.ctt_edits.specs.declared.row.Row.TheVariants.{Slot}
use Rattle.ctt_draft.specs.Drafts.{differs}
use Rattle.ctt_draft.specs.Comparisons.{base_of}
use Rattle.ctt_draft.proofs.FirstLemmas.{found_next, past_next, next_within, found_none}
use Rattle.ctt_draft.proofs.comparing.Comparison.first_slot.Goals as goal

pub returns-then-slot_differs : goal.returns-then-slot_differs
returns-then-slot_differs g c = found_next (λ n. differs (base_of c.args.self.now) c.args.self.now.sheet (Slot n)) (has_slot c.args.rows.now) c.loop-slot.from (slot_count c.args.self.now.problem) c.in-Some.slot c.next_slot.result (subst (λ i. IsLeast (between c.loop-slot.from (slot_count i) (has_slot c.args.rows.now)) c.next_slot.result) c.instance-instance.ensures c.next_slot.ensures) c.in-Some.is c.loop-slot.invariant.none c.loop-slot.invariant.within (sym c.slot_differs.ensures ∙ c.if-slot_differs.true)

pub loop-slot-preserved : goal.loop-slot-preserved
loop-slot-preserved g c =
    let behind = next_within (has_slot c.args.rows.now) c.loop-slot.from (slot_count c.args.self.now.problem) c.in-Some.slot c.next_slot.result (subst (λ i. IsLeast (between c.loop-slot.from (slot_count i) (has_slot c.args.rows.now)) c.next_slot.result) c.instance-instance.ensures c.next_slot.ensures) c.in-Some.is in
    record {
      none = subst (λ n. find (λ n. differs (base_of c.args.self.now) c.args.self.now.sheet (Slot n)) (below (has_slot c.args.rows.now) (n + 1)) ≡ None) (sym c.get-from.ensures) (past_next (λ n. differs (base_of c.args.self.now) c.args.self.now.sheet (Slot n)) (has_slot c.args.rows.now) c.loop-slot.from (slot_count c.args.self.now.problem) c.in-Some.slot c.next_slot.result (subst (λ i. IsLeast (between c.loop-slot.from (slot_count i) (has_slot c.args.rows.now)) c.next_slot.result) c.instance-instance.ensures c.next_slot.ensures) c.in-Some.is c.loop-slot.invariant.none c.loop-slot.invariant.within (sym c.slot_differs.ensures ∙ c.if-slot_differs.false));
      within = omega (arith, behind.1, c.get-from.ensures);
    }

pub returns : goal.returns
returns g c = found_none (λ n. differs (base_of c.args.self.now) c.args.self.now.sheet (Slot n)) (has_slot c.args.rows.now) c.loop-slot.from (slot_count c.args.self.now.problem) c.next_slot.result (subst (λ i. IsLeast (between c.loop-slot.from (slot_count i) (has_slot c.args.rows.now)) c.next_slot.result) c.instance-instance.ensures c.next_slot.ensures) c.in_default.is c.loop-slot.invariant.none c.loop-slot.invariant.within
