use Rattle.std.proofs.lemmas.Str.{is_utf8-from_IsUtf8}
use Rattle.ctt_commands.proofs.PairLemmas.{no_utf8}
use Rattle.ctt_commands.proofs.places.push_below.Goals as goal

pub returns-in-Ok : goal.returns-in-Ok
returns-in-Ok c = rw (is_utf8-from_IsUtf8 c.args.line.now c.in-Ok.ensures.cases.1) (rw c.in-Ok.ensures.cases.0 at c.push_below_text.ensures)

pub returns-in-Err : goal.returns-in-Err
returns-in-Err c = rw (no_utf8 c.args.line.now c.in-Err.ensures.cases.0) c.push_below_bytes.ensures
