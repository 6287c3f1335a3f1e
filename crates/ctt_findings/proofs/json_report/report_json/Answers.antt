use Rattle.std.proofs.Common.{rules, ◌≡◌, ◌∙◌, ◌++◌, ap, codes, option_map}
use Rattle.serde_json.specs.Data.{object}
use Rattle.serde_json.specs.Written.{compact_text, has_float}
use Rattle.ctt_findings.specs.ReportText.{data_of, json_of}
use Rattle.ctt_findings.proofs.ReportLemmas.{no_float}
use Rattle.ctt_findings.proofs.json_report.report_json.Goals as goal

pub returns : goal.returns
unfolding data_of
returns c =
    let i = c.args.instance.now in
    let file = option_map (λ name. name.now) c.args.file in
    let found = c.assess-assessment.result in
    let written : c.in_ok-line.field-0.items ≡ json_of file i found.hard found.cost found.lawful found.complete =
    c.in_ok-line.ensures (ap (λ ms. has_float (object ms)) c.in_ok-report.ensures ∙ no_float file i found.hard found.cost found.lawful found.complete)
    ∙ ap (λ ms. compact_text (object ms) ++ codes "\n") c.in_ok-report.ensures in
    record {
      lawful = found.lawful;
      complete = found.complete;
      is_lawful = c.assess-assessment.ensures.lawful;
      is_complete = c.assess-assessment.ensures.complete;
      shown = search (rules, written);
    }
