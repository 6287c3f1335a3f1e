use Rattle.std.proofs.Common.{◌≡◌, ◌++◌, [], ◌∙◌, ap, append-nil, arith, sym}
use Rattle.ctt_rules.specs.declared.hard.Hard.{Hard}
use Rattle.ctt_findings.specs.Findings.{conflict_findings}
use Rattle.ctt_findings.proofs.NoneLemmas.{no_conflicts}
use Rattle.ctt_findings.proofs.conflicts.push_conflicts.Goals as goal

pub returns-then-hard_counts-eq0 : goal.returns-then-hard_counts-eq0
returns-then-hard_counts-eq0 c =
    let i = c.args.instance.now in
    let t = c.args.timetable.now in
    let counted : c.hard_counts.result.conflicts ≡ 0 = omega (arith, c.if-hard_counts-eq0.true) in
    let none : conflict_findings i t ≡ [] = no_conflicts i t c.requires (ap (λ (h : Hard). h.conflicts) (sym c.hard_counts.ensures) ∙ counted) in
    sym (append-nil c.args.found.now.items) ∙ ap (λ fs. c.args.found.now.items ++ fs) (sym none)
