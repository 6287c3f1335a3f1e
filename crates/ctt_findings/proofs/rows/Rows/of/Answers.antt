use Rattle.std.proofs.Common.{◌≡◌, ◌∙◌, rules, subst, sym, ap}
use Rattle.ctt_problem.specs.Timetable.{course_row}
use Rattle.ctt_findings.specs.Rows.{AreRows}
use Rattle.ctt_findings.proofs.RowLemmas.{one_more}
use Rattle.ctt_findings.proofs.rows.Rows.of.Goals as goal

pub loop-number-preserved : goal.loop-number-preserved
loop-number-preserved c =
    let t = c.args.timetable.now in
    let known = c.loop-number.invariant in
    record {
      size = search rules;
      rows = subst (AreRows t) (sym c.in_ok-push.ensures.items) (one_more (λ n row. row.now ≡ course_row n t) c.loop-number.rows.items c.course_row.result known.rows (c.course_row.ensures.row ∙ ap (λ n. course_row n t) (c.new.ensures ∙ sym known.size)));
    }
