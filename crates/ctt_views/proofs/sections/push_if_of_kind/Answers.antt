use Rattle.std.proofs.Common.{◌∙◌, ◌++◌, [], ap, cond, sym, append-nil, string_bytes}
use Rattle.ctt_views.specs.Items.{finding_item}
use Rattle.ctt_views.specs.Sections.{is_of_kind}
use Rattle.ctt_views.proofs.TextLemmas.{piece_is}
use Rattle.ctt_views.proofs.sections.push_if_of_kind.Goals as goal

pub returns-then-is_of_kind : goal.returns-then-is_of_kind
returns-then-is_of_kind c =
    let text = finding_item c.args.instance.now c.args.view.now c.args.days.now c.args.finding.now in
    piece_is c.push_finding.result (string_bytes c.args.page.now) (string_bytes c.push_finding.new.page) text (cond (is_of_kind c.args.kind.now c.args.finding.now) text [])
    (sym (ap (λ b. cond b text []) (sym c.is_of_kind.ensures ∙ c.if-is_of_kind.true))) c.push_finding.ensures

pub returns-else-is_of_kind : goal.returns-else-is_of_kind
returns-else-is_of_kind c =
    let text = finding_item c.args.instance.now c.args.view.now c.args.days.now c.args.finding.now in
    sym (append-nil (string_bytes c.args.page.now)) ∙ ap (λ piece. string_bytes c.args.page.now ++ piece) (sym (ap (λ b. cond b text []) (sym c.is_of_kind.ensures ∙ c.if-is_of_kind.false)))
