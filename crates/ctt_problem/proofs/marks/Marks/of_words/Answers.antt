use Rattle.std.proofs.Common.{length}
use Rattle.ctt_problem.proofs.MarkLemmas.{same_marks, filled_up_are}
use Rattle.ctt_problem.proofs.marks.Marks.of_words.Goals as goal

pub invariant_of-result : goal.invariant_of-result
invariant_of-result c = rw c.copy_from_slice.ensures.after (filled_up_are c.args.words.now c.requires.few c.requires.within)

pub returns : goal.returns
returns c = λ n. rw c.copy_from_slice.ensures.after (same_marks c.args.words.now (length c.args.words.now) 32 n)
