use Rattle.std.proofs.Common.{◌∙◌, ap, length, map, string_bytes}
use Rattle.std.proofs.lemmas.Result.{IfOk-weaker}
use Rattle.ctt_seat.specs.CrewText.{crew_text}
use Rattle.ctt_seat.proofs.closing.closing_report.Goals as goal

pub returns-clause-text : goal.returns-clause-text
returns-clause-text g c = IfOk-weaker c.crew_report.result _ _ (λ text is. is
    ∙ ap (λ n. crew_text (map string_bytes c.args.answers.items) n c.cost-cost.result) c.accepted-entries.ensures.accepted
    ∙ ap (crew_text (map string_bytes c.args.answers.items) (length c.args.closed.now)) c.cost-cost.ensures) c.crew_report.ensures
