use Rattle.std.proofs.Common.{◌*◌, ◌∙◌, length, ap}
use Rattle.std.proofs.lemmas.List.{length-replicate}
use Rattle.ctt_problem.proofs.BitRowLemmas.{none_in}
use Rattle.ctt_problem.proofs.bit_rows.BitRows.new.Goals as goal

pub invariant_of-result : goal.invariant_of-result
invariant_of-result c = record {
  few = c.requires.width;
  size = ap length (c.in_ok-words.ensures.items_if_clones_equal (λ y e. e)) ∙ length-replicate (c.args.rows * c.words_for.result) 0 ∙ ap (λ w. c.args.rows * w) c.words_for.ensures;
  within = λ row n _. none_in c.args.rows c.args.width c.in_ok-words.words.items (c.args.rows * c.words_for.result) row n (c.in_ok-words.ensures.items_if_clones_equal (λ y e. e));
}

pub returns-clause-marks : goal.returns-clause-marks
returns-clause-marks c = λ row n. none_in c.args.rows c.args.width c.in_ok-words.words.items (c.args.rows * c.words_for.result) row n (c.in_ok-words.ensures.items_if_clones_equal (λ y e. e))
