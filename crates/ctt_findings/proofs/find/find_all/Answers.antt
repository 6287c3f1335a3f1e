use Rattle.std.proofs.Common.{◌≡◌, ◌∙◌, ◌++◌, ap, subst, sym}
use Rattle.std.specs.List.{AllByRecursion as Each}
use Rattle.ctt_findings.specs.Findings.{findings, hard_findings, soft_findings}
use Rattle.ctt_findings.specs.Fitting.{FindingFits}
use Rattle.ctt_findings.proofs.FitLemmas.{findings_fit}
use Rattle.ctt_findings.proofs.find.find_all.Goals as goal

pub returns-clause-all : goal.returns-clause-all
unfolding findings
returns-clause-all c =
    let i = c.args.instance.now in
    let t = c.args.timetable.now in
    c.in_ok-push_soft.ensures ∙ ap (λ fs. fs ++ soft_findings i t) (c.in_ok-push_hard.ensures ∙ ap (λ fs. fs ++ hard_findings i t) c.new-found.ensures.items)

pub returns-clause-fit : goal.returns-clause-fit
returns-clause-fit c =
    let i = c.args.instance.now in
    subst (Each (FindingFits i)) (sym (returns-clause-all c)) (findings_fit i c.limits_hold.ensures c.args.timetable.now c.requires)
