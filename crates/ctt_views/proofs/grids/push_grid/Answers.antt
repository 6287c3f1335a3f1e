use Rattle.std.proofs.Common.{ap, codes, string_bytes, ◌++◌, ◌∙◌}
use Rattle.ctt_views.specs.GridTexts.{day_head, each_below, grid_text, line}
use Rattle.ctt_views.specs.Headings.{grid_start}
use Rattle.ctt_views.proofs.TextLemmas.{five_in, on_ok}
use Rattle.ctt_views.proofs.grids.push_grid.Goals as goal

pub returns : goal.returns
unfolding grid_text
returns c =
    five_in c.push_str-2.result (string_bytes c.args.page.now) (string_bytes c.push_grid_start.new.page) (string_bytes c.push_day_heads.new.page) (string_bytes c.push_str.new.self) (string_bytes c.push_lines.new.page) (string_bytes c.push_str-2.new.self)
    (grid_start c.args.instance.now c.args.view.now c.args.grid.now) (each_below (day_head c.args.names.now) c.args.instance.now.days) (codes "</tr>\n") (each_below (line c.args.instance.now c.args.week.now c.args.view.now c.args.grid.now) c.args.instance.now.periods) (codes "</table></div></section>\n")
    c.in_ok-push_grid_start.ensures (c.in_ok-push_day_heads.ensures ∙ ap (λ n. string_bytes c.push_grid_start.new.page ++ each_below (day_head c.args.names.now) n) c.days.ensures.exact) c.in_ok-push_str.ensures.bytes c.in_ok-push_lines.ensures (on_ok c.push_str-2.result (string_bytes c.push_lines.new.page) (string_bytes c.push_str-2.new.self) (codes "</table></div></section>\n") c.push_str-2.ensures.bytes)
