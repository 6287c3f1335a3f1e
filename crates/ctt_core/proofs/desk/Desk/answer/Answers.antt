use Rattle.std.proofs.Common.{rules, length, subst}
use Rattle.ctt_core.specs.Runs.{EventFits}
use Rattle.ctt_core.specs.declared.event.Event.TheVariants.{Open, Ask, Peek, Status, Commit, Refresh, Abandon, Show}
use Rattle.ctt_core.proofs.desk.Desk.answer.Goals as goal

pub open-requires : goal.open-requires
open-requires g c κs =
    let fits : EventFits c.args.self.now.problem (length c.args.self.now.drafts) (Open c.in-Open.planner) = subst (EventFits c.args.self.now.problem (length c.args.self.now.drafts)) c.in-Open.is c.requires in
    search rules

pub ask-requires : goal.ask-requires
ask-requires g c κs =
    let both : EventFits c.args.self.now.problem (length c.args.self.now.drafts) (Ask c.in-Ask.planner c.in-Ask.call) = subst (EventFits c.args.self.now.problem (length c.args.self.now.drafts)) c.in-Ask.is c.requires in
    let within = both.0 in
    let fits = both.1 in
    search rules

pub peek-requires : goal.peek-requires
peek-requires g c κs =
    let both : EventFits c.args.self.now.problem (length c.args.self.now.drafts) (Peek c.in-Peek.planner c.in-Peek.look) = subst (EventFits c.args.self.now.problem (length c.args.self.now.drafts)) c.in-Peek.is c.requires in
    let within = both.0 in
    let fits = both.1 in
    search rules

pub status-requires : goal.status-requires
status-requires g c κs =
    let fits : EventFits c.args.self.now.problem (length c.args.self.now.drafts) (Status c.in-Status.planner) = subst (EventFits c.args.self.now.problem (length c.args.self.now.drafts)) c.in-Status.is c.requires in
    search rules

pub commit-requires : goal.commit-requires
commit-requires g c κs =
    let fits : EventFits c.args.self.now.problem (length c.args.self.now.drafts) (Commit c.in-Commit.planner) = subst (EventFits c.args.self.now.problem (length c.args.self.now.drafts)) c.in-Commit.is c.requires in
    search rules

pub refresh-requires : goal.refresh-requires
refresh-requires g c κs =
    let fits : EventFits c.args.self.now.problem (length c.args.self.now.drafts) (Refresh c.in-Refresh.planner) = subst (EventFits c.args.self.now.problem (length c.args.self.now.drafts)) c.in-Refresh.is c.requires in
    search rules

pub abandon-requires : goal.abandon-requires
abandon-requires g c κs =
    let fits : EventFits c.args.self.now.problem (length c.args.self.now.drafts) (Abandon c.in-Abandon.planner) = subst (EventFits c.args.self.now.problem (length c.args.self.now.drafts)) c.in-Abandon.is c.requires in
    search rules

pub show-requires : goal.show-requires
show-requires g c κs =
    let fits : EventFits c.args.self.now.problem (length c.args.self.now.drafts) (Show c.in-Show.look) = subst (EventFits c.args.self.now.problem (length c.args.self.now.drafts)) c.in-Show.is c.requires in
    search rules
