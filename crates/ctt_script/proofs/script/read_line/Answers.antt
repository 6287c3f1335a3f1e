use Rattle.std.proofs.Common.{◌∙◌}
use Rattle.ctt_script.specs.JournalWords.{parses}
use Rattle.ctt_script.specs.Events.{event_form}
use Rattle.ctt_script.proofs.EventLemmas.{item_fits}
use Rattle.ctt_script.proofs.ScriptLaws.{bad_text, item_has_words, text_asks}
use Rattle.ctt_script.proofs.script.read_line.Goals as goal

pub returns-in_err-text-clause-item : goal.returns-in_err-text-clause-item
returns-in_err-text-clause-item c = c.from_residual.ensures ∙ bad_text (event_form c.args.instance.now) c.args.line.now c.in_err-text.ensures.none

pub returns-clause-item : goal.returns-clause-item
returns-clause-item c =
    text_asks (event_form c.args.instance.now) c.args.line.now c.in_ok-text.text.now c.new-reader.result c.only_event.result c.in_ok-text.ensures.utf8 c.in_ok-text.ensures.text c.new-reader.ensures
    (c.only_event.ensures (parses (event_form c.args.instance.now) c.new-reader.result) c.read_event-read.ensures)

pub returns-clause-fits : goal.returns-clause-fits
returns-clause-fits c = item_fits c.args.instance.now c.limits_hold.ensures c.args.line.now c.only_event.result (returns-clause-item c)

pub returns-clause-words : goal.returns-clause-words
returns-clause-words c = item_has_words c.args.instance.now c.args.line.now c.only_event.result (returns-clause-item c)
