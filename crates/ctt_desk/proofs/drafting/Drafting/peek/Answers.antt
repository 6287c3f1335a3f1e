use Rattle.std.proofs.Common.{rules, ◌≡◌, ◌∙◌, List, Result, Ok, Err, sym, ap, subst}
use Rattle.std.specs.Prelude.{IfOk}
use Rattle.ctt_problem.specs.Problem.{Problem, IsProblem}
use Rattle.ctt_problem.specs.declared.placed.Placed.{Placed}
use Rattle.ctt_rules.specs.Hard.{Lawful}
use Rattle.ctt_edits.specs.Fitting.{IsReply}
use Rattle.ctt_edits.specs.Looks.{LookFits, shown}
use Rattle.ctt_edits.specs.declared.call.Call.TheVariants.{Look as Looks}
use Rattle.ctt_edits.specs.declared.looks.Look.{Look}
use Rattle.ctt_edits.specs.declared.reply.Reply.{Reply}
use Rattle.ctt_draft.specs.DraftValues.{DraftValue}
use Rattle.ctt_desk.specs.Planners.{present_of}
use Rattle.ctt_desk.proofs.drafting.Drafting.peek.Goals as goal

-- the reply to a look fits, if there is one
told_fits : {E : Type 0} (i : Problem) (t : List Placed) (look : Look) (r : Result Reply E) → IfOk r (λ told. told ≡ shown i t look) → IsReply i (shown i t look) → IfOk r (IsReply i)
told_fits i t look (Ok told) is fits = subst (IsReply i) (sym is) fits
told_fits i t look (Err e) is fits = tt

pub peek-requires : goal.peek-requires
peek-requires g c κs =
    let fits : LookFits c.deref-3.result.now.problem c.args.look.now = subst (λ i. LookFits i c.args.look.now) (sym (ap (λ (d : DraftValue). d.problem) c.deref-3.ensures ∙ c.self.invariant.0)) c.requires in
    search rules

pub returns-clause-fits : goal.returns-clause-fits
returns-clause-fits g c =
    let i : Problem = g.J.Naming.problem in
    let t : List Placed = present_of i c.args.self.now in
    let is : IsProblem i = search rules in
    let lawful : Lawful i t = search rules in
    let told : IfOk c.peek.result (λ told. told ≡ shown i t c.args.look.now) = search rules in
    told_fits i t c.args.look.now c.peek.result told (c.replies_fit.ensures i t (Looks c.args.look.now) is lawful c.requires)
