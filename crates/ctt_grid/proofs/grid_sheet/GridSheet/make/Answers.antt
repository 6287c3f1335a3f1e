use Rattle.std.proofs.Common.{rules, ◌≡◌, Some, subst}
use Rattle.ctt_rules.specs.Hard.{Lawful}
use Rattle.ctt_board.specs.Changes.{apply_at, room_at}
use Rattle.ctt_board.proofs.BetweenLemmas.{comes_fits, there_fits}
use Rattle.ctt_grid.proofs.grid_sheet.GridSheet.make.Goals as goal

pub add-requires-clause-fits : goal.add-requires-clause-fits
add-requires-clause-fits c =
    let x = c.args.cell.now in
    comes_fits c.args.self.now.problem (record { course = x.course; slot = x.slot; room = c.in-Some.room }) c.args.self.now.list (subst (λ o. Lawful c.args.self.now.problem (apply_at x.course x.slot o c.args.self.now.list)) c.in-Some.is c.requires.lawful)

pub remove-requires-clause-fits : goal.remove-requires-clause-fits
remove-requires-clause-fits c =
    let x = c.args.cell.now in
    let there : room_at x.course x.slot c.args.self.now.list ≡ Some c.unwrap-room.result = search rules in
    there_fits c.args.self.now.problem x.course x.slot c.unwrap-room.result c.args.self.now.list c.lawful.ensures there
