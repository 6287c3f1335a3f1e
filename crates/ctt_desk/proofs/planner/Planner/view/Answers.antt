use Rattle.std.proofs.Common.{rules, ◌≡◌, sym, subst}
use Rattle.ctt_edits.specs.Looks.{LookFits}
use Rattle.ctt_desk.proofs.planner.Planner.view.Goals as goal

pub look_at-told-requires : goal.look_at-told-requires
look_at-told-requires g c κs =
    let same : g.S.Rooms.problem c.behind-visit.inside.sheet ≡ g.J.Naming.problem = c.behind-visit.invariant.same in
    let fits : LookFits (g.S.Rooms.problem c.behind-visit.inside.sheet) c.args.look.now = subst (λ i. LookFits i c.args.look.now) (sym same) c.requires in
    search rules
