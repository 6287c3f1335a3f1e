use Rattle.std.proofs.Common.{◌∙◌, arith}
use Rattle.ctt_problem.proofs.BitRowLemmas.{cut_row}
use Rattle.ctt_problem.proofs.bit_rows.BitRows.row.Goals as goal

pub of_words-requires-clause-within : goal.of_words-requires-clause-within
of_words-requires-clause-within c = λ n large.
    cut_row c.self.inside.rows c.self.inside.width c.args.row c.words_for-count.result n c.deref.result.now c.self.inside.words.items c.words_for-count.ensures c.deref.ensures.value
    ∙ c.self.invariant.within c.args.row n (omega (arith, large, c.self.invariant.few))

pub returns : goal.returns
returns c = λ n. rw (← c.self.view_is) (c.of_words.ensures n ∙ cut_row c.self.inside.rows c.self.inside.width c.args.row c.words_for-count.result n c.deref.result.now c.self.inside.words.items c.words_for-count.ensures c.deref.ensures.value)
