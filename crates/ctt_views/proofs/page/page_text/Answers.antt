use Rattle.std.proofs.Common.{codes, string_bytes}
use Rattle.ctt_rules.specs.Hard.{hard_counts}
use Rattle.ctt_rules.specs.Penalty.{penalty, total}
use Rattle.ctt_views.specs.Heads.{own_name, page_head, verdict}
use Rattle.ctt_views.specs.Page.{HasBody, page}
use Rattle.ctt_views.specs.declared.style.TheConstants.{STYLE}
use Rattle.ctt_views.proofs.TextLemmas.{four_pieces}
use Rattle.ctt_views.proofs.page.page_text.Goals as goal

pub returns : goal.returns
unfolding page
returns c =
    let i = c.args.instance.now in
    let t = c.args.timetable.now in
    let judged = c.assess-assessment.result in
    let plain = c.args.options.now.plain in
    let told : HasBody c.args.options.now c.args.days.now i t (hard_counts i t) (penalty i t) judged.lawful judged.complete (string_bytes c.push_verdict.new.page) (string_bytes c.push_body.new.page) =
    rw (c.assess-assessment.ensures.hard, c.assess-assessment.ensures.cost) at c.in_ok-push_body.ensures in
    record {
      lawful = judged.lawful;
      complete = judged.complete;
      is_lawful = c.assess-assessment.ensures.lawful;
      is_complete = c.assess-assessment.ensures.complete;
      body = told.text;
      is_body = told.is_body;
      shown = four_pieces (string_bytes c.new-page.result) (string_bytes c.push_head.new.page) (string_bytes c.push_verdict.new.page) (string_bytes c.push_body.new.page) (string_bytes c.push_str.new.self)
          (page_head STYLE.now i.name (own_name c.args.solution.now)) (verdict plain (total (penalty i t)) judged.lawful judged.complete) told.text (codes "</body></html>\n")
          c.new-page.ensures.bytes (rw (c.name.ensures, c.own_name.ensures) at c.in_ok-push_head.ensures)
          (rw c.assess-assessment.ensures.cost at c.in_ok-push_verdict.ensures) told.shown c.in_ok-push_str.ensures.bytes;
    }
