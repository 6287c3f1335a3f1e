use Rattle.std.proofs.Common.{sym}
use Rattle.ctt_problem.specs.Named.{is_blank}
use Rattle.ctt_problem.proofs.ListLaws.{position_none}
use Rattle.ctt_text.proofs.words.len_by_bytes.Goals as goal

pub returns-in-None : goal.returns-in-None
returns-in-None c = sym (position_none is_blank c.args.bytes.now (sym c.in-None.ensures))
