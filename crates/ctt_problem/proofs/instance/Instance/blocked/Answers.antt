use Rattle.std.proofs.Common.{rules, ◌≡◌, ◌∙◌, ap₂}
use Rattle.ctt_problem.specs.BitRows.{is_marked_in}
use Rattle.ctt_problem.proofs.BitRowLemmas.{mark_asked}
use Rattle.ctt_problem.proofs.instance.Instance.blocked.Goals as goal

pub returns : goal.returns
returns c =
    let room : c.get.result ≡ c.args.room = search rules in
    let slot : c.get-2.result ≡ c.args.slot = search rules in
    rw (← c.self.view_is) (c.is_marked.ensures ∙ ap₂ (is_marked_in c.self.inside.blocked) room slot
    ∙ mark_asked c.self.inside.blocked _ _ c.args.room c.args.slot c.self.invariant.blocked (rw (← c.self.view_is) at c.requires.room) (rw (← c.self.view_is) at c.requires.slot))
