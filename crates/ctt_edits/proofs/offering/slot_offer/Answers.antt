use Rattle.std.proofs.Common.{rules, ◌≡◌, ◌∙◌, ◌+◌, ◌∷◌, ℕ, List, map, sym, ap, subst}
use Rattle.std.specs.List.{AllByRecursion as Each}
use Rattle.ctt_problem.specs.Problem.{Problem}
use Rattle.ctt_problem.specs.declared.placed.Placed.{Placed}
use Rattle.ctt_edits.specs.Candidates.{from_to}
use Rattle.ctt_edits.specs.Edits.{EditFits}
use Rattle.ctt_edits.specs.Offers.{other_choices, edit_to}
use Rattle.ctt_edits.proofs.OfferLemmas.{slot_offer_is, choices_fit_to, to_more, taken, kept, after_next}
use Rattle.ctt_edits.proofs.offering.slot_offer.Goals.{then-is_better, else-is_better}
use Rattle.ctt_edits.proofs.offering.slot_offer.Goals as goal

pub loop-other-init : goal.loop-other-init
loop-other-init g c =
    let i : Problem = g.S.Rooms.problem c.args.sheet.now in
    let t : List Placed = g.S.Rooms.list c.args.sheet.now in
    let ys : List ℕ = from_to c.other_choices-others.result.start c.other_choices-others.result.end in
    let are : ys ≡ other_choices i c.args.pattern.now = c.other_choices-others.ensures ∙ ap (λ j. other_choices j c.args.pattern.now) c.instance.ensures in (
      slot_offer_is i t c.args.pattern.now c.args.slot ys c.requires.slot are,
      choices_fit_to i c.args.pattern.now c.args.slot ys c.requires.pattern c.requires.slot are,
    )

pub offer-offer-requires : goal.offer-offer-requires
offer-offer-requires g c κs =
    let i : Problem = g.S.Rooms.problem c.args.sheet.now in
    let more = to_more c.args.pattern.now c.args.slot c.loop-other.other c.other_choices-others.result.end c.loop-other-test.true in
    let all : Each (EditFits i) (edit_to c.args.pattern.now c.args.slot c.loop-other.other ∷ map (edit_to c.args.pattern.now c.args.slot) (from_to (c.loop-other.other + 1) c.other_choices-others.result.end)) = subst (Each (EditFits i)) more c.loop-other.invariant.1 in
    let fits : EditFits i c.edit.result = subst (EditFits i) (sym c.edit.ensures) all.0 in
    search rules

pub loop-other-preserved : goal.loop-other-preserved
loop-other-preserved g c =
    let i : Problem = g.S.Rooms.problem c.args.sheet.now in
    let t : List Placed = g.S.Rooms.list c.args.sheet.now in
    let more = to_more c.args.pattern.now c.args.slot c.loop-other.other c.other_choices-others.result.end c.loop-other-test.true in
    let all : Each (EditFits i) (edit_to c.args.pattern.now c.args.slot c.loop-other.other ∷ map (edit_to c.args.pattern.now c.args.slot) (from_to (c.loop-other.other + 1) c.other_choices-others.result.end)) = subst (Each (EditFits i)) more c.loop-other.invariant.1 in
    elim c.if-is_better.branch [
      | then-is_better w ↦ (
        after_next i t c.args.pattern.now c.args.slot c.loop-other.other c.other_choices-others.result.end c.loop-other.best c.if-is_better.best _ c.loop-other-test.true
            (taken i t c.args.pattern.now c.args.slot c.loop-other.other c.loop-other.best c.offer-offer.result c.if-is_better.best c.is_better.result c.edit.result c.edit.ensures c.offer-offer.ensures c.is_better.ensures w.if-is_better.true w.best-is) c.loop-other.invariant.0,
        all.1,
      )
      | else-is_better w ↦ (
        after_next i t c.args.pattern.now c.args.slot c.loop-other.other c.other_choices-others.result.end c.loop-other.best c.if-is_better.best _ c.loop-other-test.true
            (kept i t c.args.pattern.now c.args.slot c.loop-other.other c.loop-other.best c.offer-offer.result c.if-is_better.best c.is_better.result c.edit.result c.edit.ensures c.offer-offer.ensures c.is_better.ensures w.if-is_better.false w.best-is) c.loop-other.invariant.0,
        all.1,
      )
    ]
