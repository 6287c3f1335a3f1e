use Rattle.std.proofs.Common.{codes, string_bytes}
use Rattle.ctt_problem.specs.Problem.{slot_of}
use Rattle.ctt_views.specs.Cells.{cell}
use Rattle.ctt_views.specs.GridTexts.{each_below, line, line_start}
use Rattle.ctt_views.proofs.TextLemmas.{three_in, on_ok}
use Rattle.ctt_views.proofs.grids.push_line.Goals as goal

pub returns : goal.returns
unfolding line
returns c =
    three_in c.push_str.result (string_bytes c.args.page.now) (string_bytes c.push_line_start.new.page) (string_bytes c.push_cells.new.page) (string_bytes c.push_str.new.self)
    (line_start c.args.period) (each_below (λ d. cell c.args.instance.now c.args.week.now c.args.view.now c.args.grid.now (slot_of c.args.instance.now d c.args.period)) c.args.instance.now.days) (codes "</tr>\n")
    c.in_ok-push_line_start.ensures c.in_ok-push_cells.ensures (on_ok c.push_str.result (string_bytes c.push_cells.new.page) (string_bytes c.push_str.new.self) (codes "</tr>\n") c.push_str.ensures.bytes)
