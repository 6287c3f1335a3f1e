use Rattle.ctt_problem.proofs.MarkLemmas.{added_more}
use Rattle.ctt_problem.proofs.marks.Marks.add.Goals as goal

pub loop-place-preserved : goal.loop-place-preserved
loop-place-preserved c = added_more c.self.inside.words c.other.inside.words c.loop-place.self-inside.words c.loop-place.place (rw c.self.invariant.size c.loop-place-test.true) c.loop-place.invariant
