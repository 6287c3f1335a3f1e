use Rattle.std.proofs.Common.{rules, ◌≡◌, ◌∙◌, ap, codes, option_map}
use Rattle.ctt_problem.specs.Problem.{has_barred, has_blocked}
use Rattle.serde_json.specs.Data.{boolean, no_members, string}
use Rattle.serde_json.specs.View.{members_view}
use Rattle.ctt_findings.specs.ReportText.{with_cost, with_file, with_hard}
use Rattle.ctt_findings.proofs.ReportLemmas.{adds, all_put}
use Rattle.ctt_findings.proofs.json_report.members.Goals as goal

pub returns : goal.returns
returns c =
    let report = c.args.assessment.now in
    let i = c.args.instance.now in
    let named = rw c.name.ensures at c.in_ok-put_text.ensures in
    let file = option_map (λ name. name.now) c.args.file in
    let empty : members_view c.new-report.result.entries ≡ no_members = search rules in
    adds (codes "complete") (boolean report.complete) c.in_ok-put_answer-2.ensures
    (adds (codes "lawful") (boolean report.lawful) c.in_ok-put_answer.ensures
    (c.in_ok-put_cost.ensures ∙ ap (with_cost report.cost)
    (c.in_ok-put_hard.ensures ∙ ap (with_hard (has_barred i) (has_blocked i) report.hard)
    (adds (codes "instance") (string i.name) named
    (c.in_ok-put_file.ensures ∙ ap (with_file file) empty)))))
    ∙ all_put file i.name (has_barred i) (has_blocked i) report.hard report.cost report.lawful report.complete
