use Rattle.std.proofs.Common.{◌≡◌, ◌∙◌, ap, subst, sym}
use Rattle.std.specs.List.{AllByRecursion as Each}
use Rattle.ctt_problem.specs.Timetable.{Fits, course_row}
use Rattle.ctt_rules.proofs.TimetableLemmas.{row_fits}
use Rattle.ctt_findings.specs.Rows.{AreRows}
use Rattle.ctt_findings.proofs.RowLemmas.{known_at}
use Rattle.ctt_findings.proofs.rows.Rows.row.Goals as goal

pub returns-in-Some-clause-fits : goal.returns-in-Some-clause-fits
returns-in-Some-clause-fits c =
    let i = c.args.instance.now in
    let t = c.args.self.now in
    let found = c.in-Some.ensures.lookup in
    let rows : AreRows t c.deref.result.now = subst (AreRows t) (sym c.deref.ensures.value) (rw (← c.self.view_is) c.self.invariant) in
    let is : c.in-Some.row.now.now ≡ course_row c.args.course t =
    known_at (λ n row. row.now ≡ course_row n t) c.deref.result.now c.get.result c.in-Some.row.now found.3.0 (found.3.1 c.in-Some.row.now) rows ∙ ap (λ n. course_row n t) c.get.ensures in
    subst (Each (Fits i)) (sym is) (row_fits i t c.args.course c.requires)
