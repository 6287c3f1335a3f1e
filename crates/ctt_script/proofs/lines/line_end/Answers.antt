use Rattle.ctt_script.proofs.ScriptLaws.{first_byte_is}
use Rattle.ctt_script.proofs.lines.line_end.Goals as goal

pub returns : goal.returns
returns c = first_byte_is 10 c.args.text.now c.memchr.result c.memchr.ensures
