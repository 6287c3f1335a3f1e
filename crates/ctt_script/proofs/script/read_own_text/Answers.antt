use Rattle.std.proofs.Common.{◌≡◌, ◌∙◌, ap}
use Rattle.ctt_text.specs.Words.{words}
use Rattle.ctt_script.specs.JournalWords.{parses}
use Rattle.ctt_script.specs.Events.{own_form}
use Rattle.ctt_script.specs.ScriptText.{own_event, whole_or_word}
use Rattle.ctt_script.proofs.EventLemmas.{own_event_fits}
use Rattle.ctt_script.proofs.script.read_own_text.Goals as goal

pub returns-clause-event : goal.returns-clause-event
returns-clause-event c =
    c.event_or_word.ensures (parses (own_form c.args.instance.now c.args.planner) c.new-reader.result) c.read_own_event-read.ensures
    ∙ ap (λ l. whole_or_word (parses (own_form c.args.instance.now c.args.planner) l)) c.new-reader.ensures

pub returns-clause-fits : goal.returns-clause-fits
returns-clause-fits c planners lt =
    let is : c.event_or_word.result ≡ own_event c.args.instance.now c.args.planner (words c.args.text.now) =
    c.event_or_word.ensures (parses (own_form c.args.instance.now c.args.planner) c.new-reader.result) c.read_own_event-read.ensures
    ∙ ap (λ l. whole_or_word (parses (own_form c.args.instance.now c.args.planner) l)) c.new-reader.ensures in
    own_event_fits c.args.instance.now c.limits_hold.ensures planners c.args.planner lt (words c.args.text.now) c.event_or_word.result is
