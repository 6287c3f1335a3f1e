use Rattle.std.proofs.Common.{◌≡◌, ◌∙◌, true, false, take, add-one, sym, ap, subst}
use Rattle.ctt_rules.specs.Hard.{Lawful}
use Rattle.ctt_board.specs.Changes.{is_change, apply}
use Rattle.ctt_board.specs.Fitting.{cell_fits, fits}
use Rattle.ctt_grid.proofs.FitLemmas.{change_take, refused, passed}
use Rattle.ctt_board.proofs.FitLemmas.{fits_to}
use Rattle.ctt_grid.proofs.fitting.fits.Goals as goal

pub new-after-requires-clause-change : goal.new-after-requires-clause-change
new-after-requires-clause-change g c = change_take c.loop-number.number c.cells-cells.result.now (subst (λ x. is_change x ≡ true) (sym c.cells-cells.ensures.value) c.cells-cells.ensures.in_turn)

pub new-after-requires-clause-fit : goal.new-after-requires-clause-fit
new-after-requires-clause-fit g c =
    let t = g.R.Rooms.list c.args.rooms.now in
    let lawful : Lawful c.args.instance.now t = subst (λ p. Lawful p t) c.requires.same c.lawful.ensures in
    (fits_to c.args.instance.now (take c.loop-number.number c.cells-cells.result.now) t lawful c.loop-number.invariant).cells_fit

pub new-after-requires-clause-lawful : goal.new-after-requires-clause-lawful
new-after-requires-clause-lawful g c =
    let t = g.R.Rooms.list c.args.rooms.now in
    let lawful : Lawful c.args.instance.now t = subst (λ p. Lawful p t) c.requires.same c.lawful.ensures in
    (fits_to c.args.instance.now (take c.loop-number.number c.cells-cells.result.now) t lawful c.loop-number.invariant).lawful

pub returns-then-not-cell_fits : goal.returns-then-not-cell_fits
returns-then-not-cell_fits g c =
    let i = c.args.instance.now in
    let t = g.R.Rooms.list c.args.rooms.now in
    let x = c.index-cells-number.result in
    let cells = c.cells-cells.result.now in
    let bad : cell_fits i (apply (take c.loop-number.number cells) t) x.course x.slot x.room ≡ false = sym (c.if-not-cell_fits.ensures ∙ ap (λ u. cell_fits i u x.course x.slot x.room) c.new-after.ensures.list) in
    sym (ap (λ y. fits i y t) (sym c.cells-cells.ensures.value) ∙ refused i cells c.loop-number.number x t c.loop-number-test.true c.index-cells-number.is bad)

pub loop-number-preserved : goal.loop-number-preserved
loop-number-preserved g c =
    let i = c.args.instance.now in
    let t = g.R.Rooms.list c.args.rooms.now in
    let x = c.index-cells-number.result in
    let cells = c.cells-cells.result.now in
    let good : cell_fits i (apply (take c.loop-number.number cells) t) x.course x.slot x.room ≡ true = sym (c.if-not-cell_fits.ensures ∙ ap (λ u. cell_fits i u x.course x.slot x.room) c.new-after.ensures.list) in
    rw add-one (passed i cells c.loop-number.number x t c.loop-number-test.true c.index-cells-number.is c.loop-number.invariant good)
