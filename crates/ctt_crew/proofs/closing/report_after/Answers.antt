use Rattle.std.proofs.Common.{List, subst}
use Rattle.ctt_desk.specs.Planners.{PlannerValue}
use Rattle.ctt_seat.specs.Attended.{HoldsSeen}
use Rattle.ctt_crew.proofs.closing.report_after.Goals as goal

pub returns-in-Ok-clause-closes : goal.returns-in-Ok-clause-closes
returns-in-Ok-clause-closes g c = record {
  history = c.closed_after-closed.result;
  legal = c.closing_report-report.ensures.legal;
  holds = subst (λ (ps : List PlannerValue). HoldsSeen ps c.closed_after-closed.result) c.as_mut_slice.ensures.value c.closed_after-closed.ensures;
  is = c.in-Ok.ensures.text;
}
