use Rattle.std.proofs.Common.{◌∙◌, sym, ap}
use Rattle.std.proofs.lemmas.Bool.{eqb-true, eq-eqb}
use Rattle.ctt_rules.proofs.CountLemmas.{all_placed, none_missing}
use Rattle.ctt_rules.proofs.lawful.has_all.Goals as goal

pub returns-then-lawful : goal.returns-then-lawful
returns-then-lawful c =
    let i = c.args.instance.now in
    let t = c.args.timetable.now in
    let lectures = ap (λ k. k.lectures) c.requires.counted in (
      λ e. record { lawful = c.requires.judged.0 c.if-lawful.true; all_placed = all_placed i t c.requires.timetable (sym lectures ∙ eqb-true c.args.hard.now.lectures 0 e) },
      λ l. eq-eqb c.args.hard.now.lectures 0 (lectures ∙ none_missing i t c.requires.timetable l.all_placed),
    )
