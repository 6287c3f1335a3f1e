use Rattle.std.proofs.Common.{rules, ◌≡◌, ◌∙◌, ◌++◌, ap, codes, option_map}
use Rattle.serde_json.specs.Data.{Data, array, object, put}
use Rattle.serde_json.specs.View.{members_view, view}
use Rattle.serde_json.specs.Written.{compact_text, has_float}
use Rattle.ctt_findings.specs.Findings.{findings}
use Rattle.ctt_findings.specs.Objects.{all_objects, objects_of}
use Rattle.ctt_findings.specs.ReportText.{explained_data_of, explained_json_of}
use Rattle.ctt_findings.proofs.ObjectLemmas.{objects_no_float}
use Rattle.ctt_findings.proofs.ReportLemmas.{findings_put, no_float_explained}
use Rattle.ctt_findings.proofs.json_report.explained_json.Goals as goal

pub returns : goal.returns
returns c =
    let i = c.args.instance.now in
    let t = c.args.timetable.now in
    let file = option_map (λ name. name.now) c.args.file in
    let judged = c.assess-assessment.result in
    let all : Data = all_objects i t in
    let made : view c.in_ok-array.array ≡ all = c.in_ok-array.ensures ∙ ap (λ fs. array (objects_of i fs)) (c.deref.ensures.value ∙ c.in_ok-found.ensures.all) in
    let value_is : object (members_view c.put.new.map.entries) ≡ explained_data_of all file i judged.hard judged.cost judged.lawful judged.complete =
    ap object (c.in_ok-put.ensures.ok
    ∙ ap (λ (d : Data). put (codes "findings") d (members_view c.in_ok-report.report.entries)) made
    ∙ ap (put (codes "findings") all) c.in_ok-report.ensures)
    ∙ findings_put all file i judged.hard judged.cost judged.lawful judged.complete in
    let written : c.in_ok-line.field-0.items ≡ explained_json_of all file i judged.hard judged.cost judged.lawful judged.complete =
    c.in_ok-line.ensures (ap has_float value_is ∙ no_float_explained all (objects_no_float i (findings i t)) file i judged.hard judged.cost judged.lawful judged.complete)
    ∙ ap (λ d. compact_text d ++ codes "\n") value_is in
    record {
      lawful = judged.lawful;
      complete = judged.complete;
      is_lawful = c.assess-assessment.ensures.lawful;
      is_complete = c.assess-assessment.ensures.complete;
      shown = search (rules, written);
    }
