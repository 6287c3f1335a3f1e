use Rattle.std.proofs.Common.{sym}
use Rattle.std.proofs.lemmas.List.{take_min}
use Rattle.ctt_text.proofs.point.byte_point.Goals as goal

pub returns : goal.returns
returns c = rw (sym c.not_text_said.ensures, sym (take_min c.args.at c.args.text.now), sym c.min.ensures) c.point_line.ensures
