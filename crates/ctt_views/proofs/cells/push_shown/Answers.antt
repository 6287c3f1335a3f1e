use Rattle.std.proofs.Common.{◌∙◌, ◌++◌, [], ap, cond, sym, append-nil, string_bytes}
use Rattle.ctt_views.specs.Cells.{lecture_text, shown_text}
use Rattle.ctt_views.proofs.TextLemmas.{piece_is}
use Rattle.ctt_views.proofs.cells.push_shown.Goals as goal

pub returns-then-is_of : goal.returns-then-is_of
returns-then-is_of c =
    let text = lecture_text c.args.instance.now c.args.week.now c.args.view.now c.args.grid.now c.args.lecture.now in
    piece_is c.push_lecture.result (string_bytes c.args.page.now) (string_bytes c.push_lecture.new.page) text (shown_text c.args.instance.now c.args.week.now c.args.view.now c.args.grid.now c.args.lecture.now)
    (sym (ap (λ b. cond b text []) (sym c.is_of.ensures ∙ c.if-is_of.true))) c.push_lecture.ensures

pub returns-else-is_of : goal.returns-else-is_of
returns-else-is_of c =
    let text = lecture_text c.args.instance.now c.args.week.now c.args.view.now c.args.grid.now c.args.lecture.now in
    sym (append-nil (string_bytes c.args.page.now)) ∙ ap (λ piece. string_bytes c.args.page.now ++ piece) (sym (ap (λ b. cond b text []) (sym c.is_of.ensures ∙ c.if-is_of.false)))
