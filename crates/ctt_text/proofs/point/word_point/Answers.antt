use Rattle.std.proofs.Common.{◌≡◌, ◌∙◌, ◌==◌, true, refl, sym}
use Rattle.ctt_text.proofs.point.word_point.Goals as goal

pub returns-then-at-eq1 : goal.returns-then-at-eq1
returns-then-at-eq1 c =
    let one : (c.args.at == 1) ≡ true = rw c.if-at-eq1.true refl in
    rw (sym c.has_byte_mark.ensures ∙ c.if-has_byte_mark.true, one, sym c.word_place.ensures.place) c.point_line.ensures
