use Rattle.std.proofs.Common.{◌+◌, arith}
use Rattle.std.proofs.lemmas.Grind.{common_steps}
use Rattle.ctt_text.proofs.NumberLemmas.{value_grows}
use Rattle.ctt_script.proofs.amounts.amount.Goals as goal

pub returns-then-value-gt-GREATEST : goal.returns-then-value-gt-GREATEST
returns-then-value-gt-GREATEST c =
    let more = value_grows (c.loop-byte.byte-index + 1) c.args.word.now in
    grind (arith, common_steps, more)
