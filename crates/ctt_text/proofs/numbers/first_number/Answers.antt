use Rattle.std.proofs.Common.{sym, ap, ◌∙◌}
use Rattle.std.proofs.lemmas.List.{take_rest}
use Rattle.ctt_text.specs.Numbers.{first_number}
use Rattle.ctt_text.proofs.WordLemmas.{words_of_blanks}
use Rattle.ctt_text.proofs.NumberLemmas.{first_number_at, first_number_ends}
use Rattle.ctt_text.proofs.numbers.first_number.Goals as goal

pub returns-in_err-start-clause-none : goal.returns-in_err-start-clause-none
returns-in_err-start-clause-none c = rw c.from_residual.ensures (ap first_number (words_of_blanks c.args.bytes.now (sym c.in_err-start.ensures)))

pub returns-in_err-number-clause-none : goal.returns-in_err-number-clause-none
returns-in_err-number-clause-none c = rw c.from_residual-in_err-number.ensures (first_number_at c.args.bytes.now c.in_ok-start.start (sym c.in_ok-start.ensures) ∙ rw take_rest at c.in_err-number.ensures.none)

pub returns-clause-found : goal.returns-clause-found
returns-clause-found c = first_number_ends c.args.bytes.now c.in_ok-start.start (sym c.in_ok-start.ensures) c.in_ok-number.number c.in_ok-number.len (rw take_rest at c.in_ok-number.ensures.number) (rw take_rest at c.in_ok-number.ensures.end)
