use Rattle.std.proofs.Common.{rules, ◌∙◌, sym, ap, subst}
use Rattle.ctt_edits.specs.Looks.{LookFits}
use Rattle.ctt_core.specs.Desks.{DeskValue}
use Rattle.ctt_core.proofs.desk.Desk.show.Goals as goal

pub look-requires : goal.look-requires
look-requires g c κs =
    let fits : LookFits (g.S.Rooms.problem c.self.inside.sheet) c.args.look.now = subst (λ i. LookFits i c.args.look.now) (sym (c.self.invariant.same ∙ ap (λ (v : DeskValue). v.problem) c.self.view_is)) c.requires in
    search rules
