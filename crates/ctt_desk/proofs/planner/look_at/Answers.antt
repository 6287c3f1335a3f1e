use Rattle.std.proofs.Common.{sym, subst, ◌≡◌}
use Rattle.std.proofs.lemmas.Result.{IfOk-weaker}
use Rattle.ctt_problem.specs.Problem.{IsProblem}
use Rattle.ctt_edits.specs.Fitting.{IsReply}
use Rattle.ctt_edits.specs.Looks.{shown}
use Rattle.ctt_edits.specs.declared.call.Call.TheVariants.{Look as Looks}
use Rattle.ctt_desk.proofs.planner.look_at.Goals as goal

pub returns-clause-fits : goal.returns-clause-fits
returns-clause-fits g c =
    let i = g.S.Rooms.problem c.args.sheet.now in
    let t = g.S.Rooms.list c.args.sheet.now in
    let told : IsReply i (shown i t c.args.look.now) = c.replies_fit.ensures i t (Looks c.args.look.now) (subst IsProblem c.instance.ensures c.limits_hold.ensures) c.lawful.ensures c.requires in
    IfOk-weaker c.look.result (λ r. r ≡ shown i t c.args.look.now) (IsReply i) (λ r e. subst (IsReply i) (sym e) told) c.look.ensures
