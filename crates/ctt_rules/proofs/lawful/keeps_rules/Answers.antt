use Rattle.std.proofs.Common.{◌≡◌, ◌==◌, ◌&&◌, ◌∙◌, true, sym, ap}
use Rattle.std.proofs.lemmas.Bool.{both_ways, eqb-true, eq-eqb, and_from, and_parts}
use Rattle.ctt_rules.specs.Hard.{Lawful}
use Rattle.ctt_rules.proofs.CountLemmas.{NoneCounted, counted, lawful}
use Rattle.ctt_rules.proofs.lawful.keeps_rules.Goals as goal

pub returns-then-breaks_none : goal.returns-then-breaks_none
returns-then-breaks_none c =
    let i = c.args.instance.now in
    let t = c.args.timetable.now in
    let h = c.args.hard.now in
    let all = and_parts (h.conflicts == 0) (h.availability == 0 && (h.occupancy == 0 && (h.barred == 0 && h.blocked == 0))) (sym c.breaks_none.ensures ∙ c.if-breaks_none.true) in
    let four = and_parts (h.availability == 0) (h.occupancy == 0 && (h.barred == 0 && h.blocked == 0)) all.1 in
    let three = and_parts (h.occupancy == 0) (h.barred == 0 && h.blocked == 0) four.1 in
    let two = and_parts (h.barred == 0) (h.blocked == 0) three.1 in
    let none : NoneCounted i t = record {
      conflicts = sym (ap (λ k. k.conflicts) c.requires.counted) ∙ eqb-true h.conflicts 0 all.0;
      unavailable = sym (ap (λ k. k.availability) c.requires.counted) ∙ eqb-true h.availability 0 four.0;
      occupancy = sym (ap (λ k. k.occupancy) c.requires.counted) ∙ eqb-true h.occupancy 0 three.0;
      barred = sym (ap (λ k. k.barred) c.requires.counted) ∙ eqb-true h.barred 0 two.0;
      blocked = sym (ap (λ k. k.blocked) c.requires.counted) ∙ eqb-true h.blocked 0 two.1;
    } in
    (λ e. lawful i t c.requires.timetable (c.has_no_surplus.ensures.0 e) none, λ l. c.has_no_surplus.ensures.1 l.few)

pub returns-else-breaks_none : goal.returns-else-breaks_none
returns-else-breaks_none c = (λ e. absurd (both_ways c.breaks_none.result c.if-breaks_none.false e), λ l. free l)
  where
    free : Lawful c.args.instance.now c.args.timetable.now → c.breaks_none.result ≡ true
    free l =
        let none = counted c.args.instance.now c.args.timetable.now c.requires.timetable l in
        let h = c.args.hard.now in
        c.breaks_none.ensures ∙ and_from (h.conflicts == 0) (h.availability == 0 && (h.occupancy == 0 && (h.barred == 0 && h.blocked == 0))) (eq-eqb h.conflicts 0 (ap (λ k. k.conflicts) c.requires.counted ∙ none.conflicts))
        (and_from (h.availability == 0) (h.occupancy == 0 && (h.barred == 0 && h.blocked == 0)) (eq-eqb h.availability 0 (ap (λ k. k.availability) c.requires.counted ∙ none.unavailable))
        (and_from (h.occupancy == 0) (h.barred == 0 && h.blocked == 0) (eq-eqb h.occupancy 0 (ap (λ k. k.occupancy) c.requires.counted ∙ none.occupancy))
        (and_from (h.barred == 0) (h.blocked == 0) (eq-eqb h.barred 0 (ap (λ k. k.barred) c.requires.counted ∙ none.barred)) (eq-eqb h.blocked 0 (ap (λ k. k.blocked) c.requires.counted ∙ none.blocked)))))
