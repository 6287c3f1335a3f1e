use Rattle.std.proofs.Common.{rules, ◌≤◌, true, length}
use Rattle.ctt_commands.proofs.PlaceLemmas.{unfound_at}
use Rattle.ctt_commands.proofs.word_place.find_byte.Goals as goal

pub returns-then-start-text-clause-cause : goal.returns-then-start-text-clause-cause
returns-then-start-text-clause-cause c =
    let none : length c.args.text.now ≤ c.args.number = search rules in
    unfound_at c.bytes_end.result c.args.file.now c.args.text.now c.args.number true c.end_fault.result c.end_fault.ensures.told c.end_fault.ensures.memory c.bytes_end.ensures none
