use Rattle.std.proofs.Common.{rules, ◌≡◌, ◌∙◌, w64, SFits, to_z, of_z, List, ap, Ok}
use Rattle.ctt_problem.specs.Problem.{Problem}
use Rattle.ctt_problem.specs.declared.placed.Placed.{Placed}
use Rattle.ctt_board.specs.Boards.{delta}
use Rattle.ctt_board.proofs.CostLemmas.{signed_is}
use Rattle.ctt_edits.specs.Edits.{edit_fault, change}
use Rattle.ctt_edits.proofs.FaultLemmas.{priced_is}
use Rattle.ctt_edits.proofs.pricing.price.Goals as goal

pub returns : goal.returns
returns g c =
    let i : Problem = g.S.Rooms.problem c.args.sheet.now in
    let t : List Placed = g.S.Rooms.list c.args.sheet.now in
    let fits : SFits w64 c.delta.result = search rules in
    let value : to_z w64 (of_z w64 c.delta.result) ≡ delta i t c.in_ok-change.change = signed_is c.delta.result (delta i t c.in_ok-change.change) fits c.delta.ensures in
    let checks = c.in_ok-change.ensures in
    ap Ok value ∙ priced_is (edit_fault i t c.args.edit.now) (change t c.args.edit.now) c.in_ok-change.change (delta i t) checks.change
