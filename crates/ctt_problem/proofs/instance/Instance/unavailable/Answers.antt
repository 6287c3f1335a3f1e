use Rattle.std.proofs.Common.{◌||◌, ◌∙◌, sym, ap}
use Rattle.ctt_problem.specs.BitRows.{is_marked_in}
use Rattle.ctt_problem.proofs.SideTables.{unavailable_by}
use Rattle.ctt_problem.proofs.instance.Instance.unavailable.Goals as goal

pub returns-then-is_marked : goal.returns-then-is_marked
returns-then-is_marked c =
    let i = c.self.inside in
    let first = sym c.is_marked.ensures ∙ c.if-is_marked.true in
    rw (← c.self.view_is) (c.if-is_marked.true ∙ sym (ap (λ b. b || is_marked_in i.closed c.get-row.result c.get-mark.result) first)
    ∙ unavailable_by i c.args.course c.args.slot _ _ c.self.invariant c.get-row.ensures c.get-mark.ensures (rw (← c.self.view_is) at c.requires.course) (rw (← c.self.view_is) at c.requires.slot))

pub returns-else-is_marked : goal.returns-else-is_marked
returns-else-is_marked c =
    let i = c.self.inside in
    let first = sym c.is_marked.ensures ∙ c.if-is_marked.false in
    rw (← c.self.view_is) (c.is_marked-else-is_marked.ensures ∙ sym (ap (λ b. b || is_marked_in i.closed c.get-row.result c.get-mark.result) first)
    ∙ unavailable_by i c.args.course c.args.slot _ _ c.self.invariant c.get-row.ensures c.get-mark.ensures (rw (← c.self.view_is) at c.requires.course) (rw (← c.self.view_is) at c.requires.slot))
