use Rattle.std.proofs.Common.{◌∙◌, ap, arith, length, sym, take}
use Rattle.std.proofs.lemmas.List.{take_all}
use Rattle.ctt_problem.proofs.ListLaws.{position_is, position_none}
use Rattle.ctt_text.specs.TextPlaces.{is_feed}
use Rattle.ctt_text.proofs.places.first_line.Goals as goal

pub returns-in-Some : goal.returns-in-Some
returns-in-Some c = ap (λ n. take n c.args.text.now) (position_is is_feed c.args.text.now c.in-Some.end (sym c.in-Some.ensures)).0

pub returns-in-None : goal.returns-in-None
returns-in-None c =
    let text = c.args.text.now in
    sym (ap (λ n. take n text) (position_none is_feed text (sym c.in-None.ensures)) ∙ take_all (length text) text (omega arith))
