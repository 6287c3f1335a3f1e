use Rattle.ctt_office.proofs.LineLemmas.{has_end}
use Rattle.ctt_office.proofs.line_reader.first_end.Goals as goal

pub returns-clause-some : goal.returns-clause-some
returns-clause-some c = has_end c.args.bytes.now c.line_end.result c.line_end.ensures
