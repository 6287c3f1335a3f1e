use Rattle.std.proofs.Common.{rules}
use Rattle.ctt_draft.specs.Drafts.{calls_of}
use Rattle.ctt_core.specs.Runs.{after}
use Rattle.ctt_desk.specs.Planners.{IsStale}
use Rattle.ctt_script.proofs.AnswersFit.{stale_row_fits}
use Rattle.ctt_seat.proofs.seat.Seat.refresh.Goals as goal

pub returns-in-Err-Stale-clause-fits : goal.returns-in-Err-Stale-clause-fits
returns-in-Err-Stale-clause-fits g c =
    let stale : IsStale g.J.Naming.problem g.J.Naming.opening c.in-Drafting.drafting c.in-Err-Stale.planner c.in-Err-Stale.row c.in-Err-Stale.asked = search rules in
    stale_row_fits g.J.Naming.problem c.in-Drafting.drafting.base (after g.J.Naming.problem g.J.Naming.opening c.in-Err-Stale.planner.front) (calls_of c.in-Drafting.drafting.asked) c.in-Err-Stale.row stale.differs
