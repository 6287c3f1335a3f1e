use Rattle.std.proofs.Common.{codes, string_bytes}
use Rattle.ctt_problem.specs.Problem.{has_barred, has_blocked}
use Rattle.ctt_views.specs.Report.{barred_row, blocked_row, count_row, hard_rows}
use Rattle.ctt_views.proofs.TextLemmas.{six_in}
use Rattle.ctt_views.proofs.report.push_hard.Goals as goal

pub returns : goal.returns
unfolding hard_rows
returns c =
    let i = c.args.instance.now in
    let hard = c.args.hard.now in
    six_in c.push_blocked.result (string_bytes c.args.page.now) (string_bytes c.push_count.new.page) (string_bytes c.push_count-2.new.page) (string_bytes c.push_count-3.new.page) (string_bytes c.push_count-4.new.page) (string_bytes c.push_barred.new.page) (string_bytes c.push_blocked.new.page)
    (count_row (codes "lectures") (codes "lectures") (codes "&#9661;") hard.lectures) (count_row (codes "conflicts") (codes "conflict") (codes "&#9650;") hard.conflicts) (count_row (codes "availability") (codes "availability") (codes "&#9660;") hard.availability) (count_row (codes "occupancy") (codes "occupancy") (codes "&#9670;") hard.occupancy) (barred_row (has_barred i) hard.barred) (blocked_row (has_blocked i) hard.blocked)
    c.in_ok-push_count.ensures c.in_ok-push_count-2.ensures c.in_ok-push_count-3.ensures c.in_ok-push_count-4.ensures (rw c.has_barred.ensures at c.in_ok-push_barred.ensures) (rw c.has_blocked.ensures at c.push_blocked.ensures)
