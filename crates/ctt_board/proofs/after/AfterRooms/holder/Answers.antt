use Rattle.std.proofs.Common.{◌∙◌, sym, ap, subst, length, leb, false}
use Rattle.std.proofs.lemmas.Bool.{and_parts}
use Rattle.ctt_rules.specs.Hard.{Lawful}
use Rattle.ctt_board.specs.Changes.{in_turn, holder_by}
use Rattle.ctt_board.proofs.AfterLemmas.{holders_after}
use Rattle.ctt_board.proofs.after.AfterRooms.holder.Goals as goal

pub returns : goal.returns
returns g c =
    let cells = c.self.inside.cells.now in
    let t = g.R.Rooms.list c.self.inside.rooms.now in
    let i = c.self.inside.instance.now in
    let lawful : Lawful i t = subst (λ p. Lawful p t) c.self.invariant.same c.lawful.ensures in
    let turn = (and_parts (leb (length cells) 4) (in_turn false cells) c.self.invariant.change).1 in
    rw (← c.self.view_is) (c.last_holder.ensures ∙ ap (holder_by cells c.args.slot c.args.room) c.holder.ensures ∙ sym (holders_after i cells t c.args.slot c.args.room lawful turn c.self.invariant.fit c.self.invariant.lawful))
