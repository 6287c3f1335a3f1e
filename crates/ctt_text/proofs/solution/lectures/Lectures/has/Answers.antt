use Rattle.std.proofs.Common.{◌≡◌, ◌+◌, ◌*◌, ◌<◌, ◌∙◌, ap, sym, length, None, is_some, get_or, arith}
use Rattle.ctt_problem.specs.Problem.{slot_count}
use Rattle.ctt_text.proofs.LectureLemmas.{has_at}
use Rattle.ctt_text.proofs.solution.lectures.Lectures.has.Goals as goal

pub returns : goal.returns
returns c =
    let slots = slot_count c.self.inside.instance.now in
    let rooms = c.self.inside.rooms.items in
    let place : c.place-place.result ≡ c.args.course * slots + c.args.slot = rw (← c.self.view_is) at c.place-place.ensures.exact in
    let within : c.place-place.result < length rooms = omega (arith, c.self.invariant, rw (← c.self.view_is) at c.place-place.ensures.within) in
    rw (← c.self.view_is)
    (c.is_some.ensures ∙ ap is_some (c.room.ensures ∙ c.index.ensures)
    ∙ sym (has_at slots c.args.course c.args.slot (rw (← c.self.view_is) at c.requires.slot) rooms 0 c.place-place.result c.index.result.now (omega (arith, place)) within))
