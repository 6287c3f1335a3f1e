use Rattle.std.proofs.Common.{rules, ◌≡◌, ◌∙◌, w64, SFits, ap}
use Rattle.ctt_board.specs.Boards.{Board, delta}
use Rattle.ctt_board.proofs.CostLemmas.{signed_is}
use Rattle.ctt_grid.proofs.list_sheet.ListSheetTimetable.delta.Goals as goal

pub returns : goal.returns
returns c =
    let fits : SFits w64 c.delta.result = search rules in
    let same : c.delta.result ≡ delta c.args.self.now.problem c.args.self.now.list c.args.change.now = c.delta.ensures ∙ ap (λ (b : Board). delta b.problem c.args.self.now.list c.args.change.now) c.self.view_is in
    signed_is c.delta.result (delta c.args.self.now.problem c.args.self.now.list c.args.change.now) fits same
