use Rattle.std.proofs.Common.{rules, ◌≡◌, ◌∙◌, ap₂}
use Rattle.ctt_problem.specs.BitRows.{is_marked_in}
use Rattle.ctt_problem.proofs.BitRowLemmas.{mark_asked}
use Rattle.ctt_problem.proofs.instance.Instance.closed.Goals as goal

pub returns : goal.returns
returns c =
    let course : c.get.result ≡ c.args.course = search rules in
    let slot : c.get-2.result ≡ c.args.slot = search rules in
    rw (← c.self.view_is) (c.is_marked.ensures ∙ ap₂ (is_marked_in c.self.inside.closed) course slot
    ∙ mark_asked c.self.inside.closed _ _ c.args.course c.args.slot c.self.invariant.closed (rw (← c.self.view_is) at c.requires.course) (rw (← c.self.view_is) at c.requires.slot))
