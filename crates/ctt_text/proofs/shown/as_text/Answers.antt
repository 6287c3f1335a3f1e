use Rattle.std.proofs.lemmas.Str.{is_utf8-from_IsUtf8}
use Rattle.std.proofs.Common.{refl}
use Rattle.ctt_text.proofs.PointLemmas.{not_utf8}
use Rattle.ctt_text.proofs.shown.as_text.Goals as goal

pub returns-in-Ok : goal.returns-in-Ok
returns-in-Ok c = rw (is_utf8-from_IsUtf8 c.args.word.now c.in-Ok.ensures.cases.1) c.in-Ok.ensures.cases.0

pub returns-in-Err : goal.returns-in-Err
returns-in-Err c = rw (not_utf8 c.args.word.now c.in-Err.ensures.cases.0) refl
