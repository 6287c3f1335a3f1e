use Rattle.std.proofs.Common.{ap}
use Rattle.ctt_office.specs.declared.seat_line.SeatLine.TheVariants.{Bad}
use Rattle.ctt_office.proofs.WordLemmas.{of_text, of_untext}
use Rattle.ctt_office.proofs.seat_line.read_seat_line.Goals as goal

pub returns-in-Ok-clause-line : goal.returns-in-Ok-clause-line
returns-in-Ok-clause-line c =
    of_text c.args.instance.now c.args.planner c.args.line.now c.in-Ok.text.now c.read_text.result c.in-Ok.ensures.cases.1 c.in-Ok.ensures.cases.0 c.read_text.ensures.line

pub returns-in-Err-clause-line : goal.returns-in-Err-clause-line
returns-in-Err-clause-line c =
    of_untext c.args.instance.now c.args.planner c.args.line.now (Bad c.first_untext.result) c.in-Err.ensures.cases.0 (ap Bad c.first_untext.ensures)
