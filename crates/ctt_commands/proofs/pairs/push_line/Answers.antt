use Rattle.std.proofs.Common.{◌≡◌, Err, inr, rules, subst}
use Rattle.ctt_text.specs.Words.{words}
use Rattle.ctt_commands.specs.Pairs.{IsPairsFault, pair_in}
use Rattle.ctt_commands.proofs.pairs.push_line.Goals as goal

pub returns-in_ok-refuse_line-in-Fault-clause-cause : goal.returns-in_ok-refuse_line-in-Fault-clause-cause
returns-in_ok-refuse_line-in-Fault-clause-cause c =
    let code = c.in-Fault.code in
    let fault = c.in_ok-refuse_line-in-Fault.field-0 in
    let is : pair_in (words c.args.line.now) ≡ Err code = search rules in
    inr (code, is, subst (λ sentence. IsPairsFault c.args.file.now code c.args.number sentence fault) c.pairs_sentence-sentence.ensures c.in_ok-refuse_line-in-Fault.ensures)
