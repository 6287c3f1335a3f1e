use Rattle.std.proofs.Common.{◌≡◌, ◌+◌, ◌*◌, ◌<◌, arith, ap}
use Rattle.ctt_grid.proofs.TableLemmas.{at_set, in_table}
use Rattle.ctt_grid.proofs.table.Table.set.Goals as goal

pub returns-clause-cells : goal.returns-clause-cells
returns-clause-cells g c = λ r k d lt.
    let w : c.self.inside.width ≡ c.args.self.now.width = ap (λ t. t.width) c.self.view_is in
    let rows : c.self.inside.rows ≡ c.args.self.now.rows = ap (λ t. t.rows) c.self.view_is in
    let column : c.args.column < c.self.inside.width = omega (arith, w, c.requires.column) in
    let row : c.args.row < c.self.inside.rows = omega (arith, rows, c.requires.row) in
    let within : c.args.row * c.self.inside.width + c.args.column < c.self.inside.rows * c.self.inside.width = in_table c.self.inside.width c.self.inside.rows c.args.row c.args.column row column in
    let other : k < c.self.inside.width = omega (arith, w, lt) in
    rw (← c.self.view_is) (at_set c.self.inside.cells.items c.self.inside.width c.args.row c.args.column r k c.args.value d column other (omega (arith, within, c.self.invariant)))
