use Rattle.std.proofs.Common.{sym, ◌∙◌, subst, arith}
use Rattle.std.proofs.lemmas.Bool.{le-ltb}
use Rattle.ctt_rules.specs.Hard.{Lawful}
use Rattle.ctt_grid.proofs.FitLemmas.{no_slot}
use Rattle.ctt_grid.proofs.fitting.cell_fits.Goals as goal

pub returns-else-get-slots : goal.returns-else-get-slots
returns-else-get-slots g c =
    let t = g.R.Rooms.list c.args.rooms.now in
    let lawful : Lawful c.args.instance.now t = subst (λ p. Lawful p t) c.requires.same c.lawful.ensures in
    let none = no_slot c.args.instance.now c.args.cell.now.course c.args.cell.now.slot t lawful (omega (arith, c.if-get-slots.false, c.get-then-get-courses.ensures, c.slots.ensures.exact)) in
    rw c.in-None.is (le-ltb c.get-then-get-courses.result c.slots.result (omega (arith, c.if-get-slots.false)) ∙ sym none)
