use Rattle.std.proofs.Common.{◌∙◌, arith}
use Rattle.ctt_problem.proofs.TableLemmas.{no_member}
use Rattle.ctt_problem.proofs.instance.clashes.add_group.Goals as goal

pub mark_all-requires-clause-within : goal.mark_all-requires-clause-within
mark_all-requires-clause-within c = λ n past.
    c.marks_of-marks.ensures n ∙ no_member c.args.rows.now.rows n (omega (arith, past, c.loop-member.invariant.size.1, c.requires.square)) c.args.members.now c.requires.members
