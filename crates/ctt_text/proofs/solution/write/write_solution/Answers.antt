use Rattle.std.proofs.Common.{◌≡◌, sym, subst, arith}
use Rattle.std.proofs.lemmas.Grind.{common_steps}
use Rattle.std.proofs.lemmas.Str.{IsUtf8-string_bytes}
use Rattle.ctt_text.specs.Words.{words}
use Rattle.ctt_text.specs.SolutionText.{SolSpells}
use Rattle.ctt_text.specs.Written.{soltext}
use Rattle.ctt_text.proofs.WrittenLaws.{written_spells}
use Rattle.ctt_text.proofs.solution.write.write_solution.Goals as goal

pub returns-clause-utf8 : goal.returns-clause-utf8
returns-clause-utf8 c = rw c.into_bytes.ensures.value (IsUtf8-string_bytes c.loop-lecture.text)

pub returns-clause-spelled : goal.returns-clause-spelled
returns-clause-spelled c =
    let text : c.into_bytes.result.items ≡ soltext c.args.instance.now c.args.lectures.now = grind (arith, common_steps) in
    subst (λ bytes. SolSpells c.args.instance.now (words bytes) c.args.lectures.now) (sym text) (written_spells c.args.instance.now c.args.lectures.now c.limits_hold.ensures c.names_are_words.ensures c.requires).0
