use Rattle.ctt_views.specs.Signs.{hard_signs}
use Rattle.ctt_views.proofs.signs.push_hard_signs.Goals as goal

pub returns : goal.returns
unfolding hard_signs
returns c =
    rw (
      c.sign-conflict.ensures,
      c.clashes.ensures,
      c.sign-unavailable.ensures,
      c.unavailable.ensures,
      c.sign-taken.ensures,
      c.shares_room.ensures,
      c.sign-barred.ensures,
      c.barred.ensures,
      c.sign-blocked.ensures,
      c.blocked.ensures,
    ) at c.write.ensures.bytes
