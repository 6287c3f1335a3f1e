use Rattle.std.proofs.Common.{rules, ◌≡◌, ◌++◌, sym, subst, length, string_bytes}
use Rattle.ctt_core.specs.Runs.{EventFits}
use Rattle.ctt_core.specs.Desks.{DeskValue}
use Rattle.ctt_script.specs.AnswerText.{answer_words}
use Rattle.ctt_script.specs.Entries.{AnswerFits}
use Rattle.ctt_line.specs.Lines.{line}
use Rattle.ctt_script.proofs.AnsweringLemmas.{answer_can, event_answered}
use Rattle.ctt_script.proofs.engine.answer_event.Goals as goal

pub step-answer-requires : goal.step-answer-requires
step-answer-requires g c κs =
    let fits : EventFits c.args.desk.now.problem (length c.args.desk.now.drafts) c.args.event.now = rw (c.requires.same, c.requires.planners) c.requires.fits in
    search rules

pub write_answer-requires : goal.write_answer-requires
write_answer-requires g c =
    let v : DeskValue = c.args.desk.now in
    subst (λ i. AnswerFits i c.step-answer.result) c.requires.same
    (answer_can v c.step-answer.new.self c.args.event.now c.step-answer.result c.step-answer.ensures.same c.step-answer.ensures.stands c.in_default.not-NoMemory 64
    (rw c.requires.same c.limits_hold.ensures) c.lawful.ensures.opening c.requires.stands (sym c.requires.planners) (rw c.requires.same c.requires.fits))

pub returns : goal.returns
returns g c =
    let v : DeskValue = c.args.desk.now in
    let grown : string_bytes c.write_answer.new.text ≡ string_bytes c.args.answers.now ++ line (answer_words v.problem c.step-answer.result) = rw c.requires.same c.in_ok-write_answer.ensures in
    event_answered v c.step-answer.new.self c.args.event.now c.step-answer.result c.step-answer.ensures.same c.step-answer.ensures.stands c.in_default.not-NoMemory (string_bytes c.args.answers.now) (string_bytes c.write_answer.new.text) grown
