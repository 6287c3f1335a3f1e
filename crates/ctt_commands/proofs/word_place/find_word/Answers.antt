use Rattle.std.proofs.Common.{rules, false}
use Rattle.ctt_text.specs.TextPlaces.{HasNoWord}
use Rattle.ctt_commands.proofs.PlaceLemmas.{unfound_at}
use Rattle.ctt_commands.proofs.word_place.find_word.Goals as goal

pub returns-in_default-clause-cause : goal.returns-in_default-clause-cause
returns-in_default-clause-cause c =
    let none : HasNoWord c.args.text.now c.args.number = search rules in
    unfound_at c.words_end.result c.args.file.now c.args.text.now c.args.number false c.end_fault.result c.end_fault.ensures.told c.end_fault.ensures.memory c.words_end.ensures none
