use Rattle.std.proofs.Common.{codes, ne_eqb, rules}
use Rattle.std.specs.Fmt.{decimal}
use Rattle.ctt_views.specs.Report.{count_row, row}
use Rattle.ctt_views.proofs.TextLemmas.{one_behind}
use Rattle.ctt_views.proofs.report.push_count.Goals as goal

pub returns-else-count-eq0 : goal.returns-else-count-eq0
unfolding count_row row
returns-else-count-eq0 c = rw (
  ne_eqb c.args.count 0 c.if-count-eq0.false,
  one_behind (codes "<a href='#") c.args.kind.now (codes "'>") c.args.sign.now (codes " ") (decimal c.args.count) (codes "</a>") (codes "</td></tr>\n"),
) (search rules)
