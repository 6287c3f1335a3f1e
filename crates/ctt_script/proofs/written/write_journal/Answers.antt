use Rattle.std.proofs.Common.{◌≡◌, ◌++◌, sym, subst, arith}
use Rattle.std.proofs.lemmas.Grind.{common_steps}
use Rattle.std.proofs.lemmas.Str.{IsUtf8-string_bytes}
use Rattle.ctt_text.specs.Words.{words}
use Rattle.ctt_script.specs.JournalText.{JournalSpells}
use Rattle.ctt_script.specs.WrittenText.{journal_text}
use Rattle.ctt_script.proofs.WrittenText.{written_spells}
use Rattle.ctt_script.proofs.written.write_journal.Goals as goal

pub returns-clause-utf8 : goal.returns-clause-utf8
returns-clause-utf8 c = rw c.into_bytes.ensures.value (IsUtf8-string_bytes c.push_str.new.self)

pub returns-clause-spelled : goal.returns-clause-spelled
returns-clause-spelled c =
    let i = c.args.instance.now in
    let es = c.args.entries.now in
    let text : c.into_bytes.result.items ≡ journal_text i es = grind (arith, common_steps) in
    λ rest. subst (λ bytes. JournalSpells i (words (bytes ++ rest)) es) (sym text) (written_spells i c.limits_hold.ensures c.names_are_words.ensures es c.requires.few c.requires.fits c.requires.short rest)
