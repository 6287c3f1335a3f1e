use Rattle.std.proofs.Common.{subst}
use Rattle.ctt_office.specs.Lines.{Comes}
use Rattle.ctt_office.proofs.SittingLemmas.{asks_line, asks_short_line}
use Rattle.ctt_office.proofs.sitting.line_of.Goals as goal

pub returns-in-Line-clause-asked : goal.returns-in-Line-clause-asked
returns-in-Line-clause-asked c = λ old new comes same. asks_short_line c.args.instance.now c.args.planner c.args.bytes.now c.read_seat_line.result old new (subst (λ n. Comes n old new) c.in-Line.is comes) same c.read_seat_line.ensures.line

pub returns-in_default-clause-asked : goal.returns-in_default-clause-asked
returns-in_default-clause-asked c = λ old new comes same. asks_line c.args.instance.now c.args.planner old new c.args.next c.in_default.not-Line comes
