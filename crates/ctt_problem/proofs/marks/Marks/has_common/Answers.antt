use Rattle.std.proofs.Common.{arith}
use Rattle.ctt_problem.proofs.MarkLemmas.{seen_more, none_seen, zero_of}
use Rattle.ctt_problem.proofs.marks.Marks.has_common.Goals as goal

pub loop-place-preserved : goal.loop-place-preserved
loop-place-preserved c = seen_more c.self.inside.words c.other.inside.words c.loop-place.place c.loop-place.common c.loop-place.invariant

pub returns : goal.returns
returns c =
    rw (← c.self.view_is) (rw (← c.other.view_is) (λ isnt. none_seen c.self.inside.words c.other.inside.words c.loop-place.place c.loop-place.common (omega arith) c.self.invariant (zero_of c.loop-place.common isnt) c.loop-place.invariant))
