use Rattle.std.proofs.Common.{◌≡◌, ◌∙◌, ◌∷◌, arith, ap, length, rules, suc, sym}
use Rattle.ctt_text.proofs.WordLemmas.{words_fit}
use Rattle.ctt_office.specs.BadWords.{first_untext}
use Rattle.ctt_office.proofs.BadWordLemmas.{untext_here, untext_later}
use Rattle.ctt_office.proofs.bad_word.first_untext.Goals as goal

pub returns-in-Err : goal.returns-in-Err
returns-in-Err c =
    let step : c.loop-word.word-iterator ≡ c.in-Some.word.now ∷ c.next.new.self = search rules in
    sym (untext_here c.loop-word.at c.in-Some.word.now c.next.new.self c.in-Err.ensures.cases.0)
    ∙ sym (ap (first_untext c.loop-word.at) step) ∙ c.loop-word.invariant.0

pub overflow_add-at : goal.overflow_add-at
overflow_add-at c =
    let step : c.loop-word.word-iterator ≡ c.in-Some.word.now ∷ c.next.new.self = search rules in
    let long : length c.loop-word.word-iterator ≡ suc (length c.next.new.self) = ap length step in
    let all = c.loop-word.invariant.1 in
    let few = words_fit c.args.line.now (omega arith) in
    omega (arith, long, all, few)

pub loop-word-preserved : goal.loop-word-preserved
loop-word-preserved c =
    let step : c.loop-word.word-iterator ≡ c.in-Some.word.now ∷ c.next.new.self = search rules in
    let long : length c.loop-word.word-iterator ≡ suc (length c.next.new.self) = ap length step in
    let all = c.loop-word.invariant.1 in (
      sym (untext_later c.loop-word.at c.in-Some.word.now c.next.new.self c.in-Ok.ensures.cases.1)
          ∙ sym (ap (first_untext c.loop-word.at) step) ∙ c.loop-word.invariant.0,
      omega (arith, long, all),
    )
