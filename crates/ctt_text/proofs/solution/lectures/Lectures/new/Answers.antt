use Rattle.std.proofs.Common.{◌≡◌, ◌*◌, ◌∙◌, ap}
use Rattle.ctt_problem.specs.Problem.{slot_count}
use Rattle.ctt_text.specs.Lectures.{listed}
use Rattle.ctt_text.proofs.LectureLemmas.{filled, none_listed}
use Rattle.ctt_text.proofs.solution.lectures.Lectures.new.Goals as goal

pub returns : goal.returns
returns c =
    let i = c.args.instance.now in
    let n = c.from.result * c.from-2.result in
    ap (λ rooms. record { problem = i; list = listed (slot_count i) 0 rooms })
    (c.in_ok-resize.ensures.items ∙ filled n c.new-rooms.result.len c.new-rooms.result.items c.none.result c.new-rooms.ensures.items c.new-rooms.ensures.len c.none.ensures)
    ∙ ap (λ ls. record { problem = i; list = ls }) (none_listed (slot_count i) 0 n)
