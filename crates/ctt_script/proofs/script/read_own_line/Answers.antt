use Rattle.std.proofs.Common.{◌≡◌, ◌∙◌}
use Rattle.ctt_script.specs.JournalWords.{parses}
use Rattle.ctt_script.specs.Events.{own_form}
use Rattle.ctt_script.specs.ScriptText.{own_item}
use Rattle.ctt_script.proofs.EventLemmas.{own_item_fits}
use Rattle.ctt_script.proofs.ScriptLaws.{bad_text, own_item_has_words, text_asks}
use Rattle.ctt_script.proofs.script.read_own_line.Goals as goal

pub returns-in_err-text-clause-item : goal.returns-in_err-text-clause-item
returns-in_err-text-clause-item c = c.from_residual.ensures ∙ bad_text (own_form c.args.instance.now c.args.planner) c.args.line.now c.in_err-text.ensures.none

pub returns-clause-item : goal.returns-clause-item
returns-clause-item c =
    text_asks (own_form c.args.instance.now c.args.planner) c.args.line.now c.in_ok-text.text.now c.new-reader.result c.only_event.result c.in_ok-text.ensures.utf8 c.in_ok-text.ensures.text c.new-reader.ensures
    (c.only_event.ensures (parses (own_form c.args.instance.now c.args.planner) c.new-reader.result) c.read_own_event-read.ensures)

pub returns-clause-fits : goal.returns-clause-fits
returns-clause-fits c planners lt =
    let is : c.only_event.result ≡ own_item c.args.instance.now c.args.planner c.args.line.now =
    text_asks (own_form c.args.instance.now c.args.planner) c.args.line.now c.in_ok-text.text.now c.new-reader.result c.only_event.result c.in_ok-text.ensures.utf8 c.in_ok-text.ensures.text c.new-reader.ensures
    (c.only_event.ensures (parses (own_form c.args.instance.now c.args.planner) c.new-reader.result) c.read_own_event-read.ensures) in
    own_item_fits c.args.instance.now c.limits_hold.ensures planners c.args.planner lt c.args.line.now c.only_event.result is

pub returns-clause-words : goal.returns-clause-words
returns-clause-words c =
    let is : c.only_event.result ≡ own_item c.args.instance.now c.args.planner c.args.line.now =
    text_asks (own_form c.args.instance.now c.args.planner) c.args.line.now c.in_ok-text.text.now c.new-reader.result c.only_event.result c.in_ok-text.ensures.utf8 c.in_ok-text.ensures.text c.new-reader.ensures
    (c.only_event.ensures (parses (own_form c.args.instance.now c.args.planner) c.new-reader.result) c.read_own_event-read.ensures) in
    own_item_has_words c.args.instance.now c.args.planner c.args.line.now c.only_event.result is
