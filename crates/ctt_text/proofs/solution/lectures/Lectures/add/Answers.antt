use Rattle.std.proofs.Common.{◌≡◌, ◌+◌, ◌*◌, ◌<◌, ◌∙◌, ap, sym, length, false, is_some, get_or, Some, set, arith}
use Rattle.ctt_problem.specs.Problem.{slot_count}
use Rattle.ctt_text.specs.Lectures.{listed}
use Rattle.ctt_text.proofs.LectureLemmas.{has_at, with_at}
use Rattle.ctt_text.proofs.solution.lectures.Lectures.add.Goals as goal

pub returns-clause-list : goal.returns-clause-list
returns-clause-list c =
    let slots = slot_count c.self.inside.instance.now in
    let rooms = c.self.inside.rooms.items in
    let k = c.place-place.result in
    let l = c.args.lecture in
    let in_row : l.slot < slots = rw (← c.self.view_is) at c.requires.fits.1 in
    let place : 0 + k ≡ l.course * slots + l.slot = omega (arith, rw (← c.self.view_is) at c.place-place.ensures.exact) in
    let within : k < length rooms = omega (arith, c.self.invariant, rw (← c.self.view_is) at c.place-place.ensures.within) in
    let free : is_some (get_or rooms k c.index_mut.result.now) ≡ false =
    sym (has_at slots l.course l.slot in_row rooms 0 k c.index_mut.result.now place within) ∙ (rw (← c.self.view_is) at c.requires.free) in
    rw (← c.self.view_is)
    (ap (λ o. listed slots 0 (set rooms k o)) c.of_room.ensures
    ∙ with_at slots l.course l.slot in_row l.room rooms 0 k c.index_mut.result.now place within free)
