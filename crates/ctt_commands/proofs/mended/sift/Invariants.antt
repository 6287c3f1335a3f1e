use Rattle.std.proofs.Common.{string_bytes}
use Rattle.ctt_commands.proofs.MendLemmas.{Mending}
use Rattle.ctt_commands.proofs.mended.sift.Given as goal

abbrev pub invariant-loop-lecture : goal.invariant-loop-lecture
invariant-loop-lecture g l = Mending l.instance (g.S.Rooms.problem l.sheet) l.lectures (g.S.Rooms.list l.sheet) l.left.items (string_bytes l.aside) l.lecture-index
