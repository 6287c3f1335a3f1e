use Rattle.std.proofs.Common.{rules, sym, subst}
use Rattle.std.specs.Prelude.{IfSome}
use Rattle.ctt_draft.specs.Drafts.{calls_of}
use Rattle.ctt_core.specs.Runs.{after}
use Rattle.ctt_desk.specs.Planners.{IsStatus}
use Rattle.ctt_script.specs.Entries.{RowFits}
use Rattle.ctt_script.proofs.AnswersFit.{stale_fits}
use Rattle.ctt_seat.proofs.seat.Seat.status.Goals as goal

pub returns-in-Ok-clause-fits : goal.returns-in-Ok-clause-fits
returns-in-Ok-clause-fits g c =
    let status : IsStatus g.J.Naming.problem g.J.Naming.opening c.in-Drafting.drafting c.status.new.self c.in-Ok.status = search rules in
    subst (λ o. IfSome o (RowFits g.J.Naming.problem)) (sym status.differs)
    (stale_fits g.J.Naming.problem c.in-Drafting.drafting.base (after g.J.Naming.problem g.J.Naming.opening c.status.new.self.planner.front) (calls_of c.in-Drafting.drafting.asked))
