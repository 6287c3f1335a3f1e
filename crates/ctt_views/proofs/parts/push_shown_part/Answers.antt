use Rattle.std.proofs.Common.{◌∙◌, ◌++◌, [], ap, cond, sym, append-nil, string_bytes}
use Rattle.ctt_views.specs.Parts.{part_text}
use Rattle.ctt_views.specs.Views.{has_kind}
use Rattle.ctt_views.proofs.TextLemmas.{piece_is}
use Rattle.ctt_views.proofs.parts.push_shown_part.Goals as goal

pub returns-then-has_kind : goal.returns-then-has_kind
returns-then-has_kind c =
    let text = part_text c.args.instance.now c.args.week.now c.args.view.now c.args.names.now c.args.kind.now in
    piece_is c.push_part.result (string_bytes c.args.page.now) (string_bytes c.push_part.new.page) text (cond (has_kind c.args.view.now c.args.kind.now) text [])
    (sym (ap (λ b. cond b text []) (sym c.has_kind.ensures ∙ c.if-has_kind.true))) c.push_part.ensures

pub returns-else-has_kind : goal.returns-else-has_kind
returns-else-has_kind c =
    let text = part_text c.args.instance.now c.args.week.now c.args.view.now c.args.names.now c.args.kind.now in
    sym (append-nil (string_bytes c.args.page.now)) ∙ ap (λ piece. string_bytes c.args.page.now ++ piece) (sym (ap (λ b. cond b text []) (sym c.has_kind.ensures ∙ c.if-has_kind.false)))
