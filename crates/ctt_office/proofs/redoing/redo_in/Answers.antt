use Rattle.std.proofs.Common.{◌∙◌, ◌++◌, ap, ap₂, length, string_bytes}
use Rattle.ctt_draft.specs.Undoing.{edits_done}
use Rattle.ctt_office.specs.Redone.{left_out, remade}
use Rattle.ctt_office.proofs.RedoLemmas.{new_present, parts_of, whole_line}
use Rattle.ctt_office.proofs.redoing.redo_in.Goals as goal

pub returns-clause-line : goal.returns-clause-line
returns-clause-line g c =
    let i = c.args.instance.now in
    let d = c.args.drafting.now in
    let all = edits_done c.args.asked.now in
    let here = new_present i d c.requires.new in
    let out = c.as_str.ensures.value ∙ c.in_ok-redone.ensures.left ∙ ap₂ (λ bs t. bs ++ parts_of i (left_out i t 1 all)) c.new-omitted.ensures.bytes here in
    let mades = c.in_ok-redone.ensures.made ∙ ap (λ t. length (remade i t all)) here in
    let whole = whole_line i d.base all c.in_ok-redone.redone.made c.in_ok-redone.redone.edits c.as_str.result.now mades c.in_ok-redone.ensures.edits out in
    c.in_ok-push_str.ensures.bytes ∙ ap (λ bs. string_bytes c.args.text.now ++ bs) (c.as_str-2.ensures.value ∙ c.in_ok-line.ensures ∙ whole)
