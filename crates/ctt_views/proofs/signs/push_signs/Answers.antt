use Rattle.std.proofs.Common.{string_bytes}
use Rattle.ctt_views.specs.Signs.{cost_signs, hard_signs, signs}
use Rattle.ctt_views.specs.Weeks.{lectures_in}
use Rattle.ctt_views.proofs.TextLemmas.{two_in}
use Rattle.ctt_views.proofs.signs.push_signs.Goals as goal

pub returns : goal.returns
unfolding signs
returns c =
    let i = c.args.instance.now in
    let w = c.args.week.now in
    let l = c.args.lecture.now in
    two_in c.push_cost_signs.result (string_bytes c.args.page.now) (string_bytes c.push_hard_signs.new.page) (string_bytes c.push_cost_signs.new.page)
    (hard_signs i (lectures_in w l.slot) l) (cost_signs i w c.args.view.now c.args.grid.now l)
    (rw c.row.ensures.row at c.in_ok-push_hard_signs.ensures) c.push_cost_signs.ensures
