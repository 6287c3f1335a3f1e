use Rattle.std.proofs.Common.{◌≡◌, [], ◌∷◌, ◌++◌, sym, ◌∙◌, ap, length}
use Rattle.ctt_draft.specs.Drafts.{calls_of, replies_in, replies}
use Rattle.ctt_core.specs.Runs.{after}
use Rattle.ctt_desk.specs.Histories.{entry_of}
use Rattle.ctt_desk.proofs.AddingLemmas.{added, one_longer, adds_moves}
use Rattle.ctt_desk.proofs.observed_prefix.extend.Goals as goal

pub compare_exchange-found-requires : goal.compare_exchange-found-requires
compare_exchange-found-requires g c =
    let h = c.args.head.now.head_is in
    let a = c.again-seen.ensures in
    let offer = c.plain-offer.ensures in
    let pen = c.no_pen-pen.ensures in
    let same = ap (λ s. s.book) a ∙ c.front.invariant.1 ∙ sym (ap (λ w. w.book) h) in (
      ap (λ w. w.tracked) h,
      same,
      pen.0 ∙ same,
      offer.0,
      rw (ap (λ w. w.key) h, pen.1, offer.1, offer.3) (adds_moves c.again-seen.result.log (entry_of c.args.planner c.args.draft.now.asked) c.front.inside.drafts (ap (λ s. length s.log) a ∙ sym c.front.invariant.0)),
    )

pub invariant_of-result : goal.invariant_of-result
invariant_of-result g c =
    let h = c.compare_exchange-found.ensures in
    let a = c.again-seen.ensures in
    let i = c.front.invariant in
    let log = c.front.inside.seen.log in
    let e = entry_of c.args.planner c.args.draft.now.asked in
    let w = c.compare_exchange-found.new.seen.log in
    let more : w ≡ c.again-seen.result.log ++ c.plain-offer.result.ask ∷ [] = added c.compare_exchange-found.result c.front.inside.drafts c.plain-offer.result.ask c.again-seen.result.log w c.if-found-drafts.false h.7 in
    let is : w ≡ log ++ e ∷ [] = more ∙ (λ k. (a k).log ++ c.plain-offer.ensures.1 k ∷ []) in
    let told : replies_in e.asked ≡ replies g.J.Naming.problem (after g.J.Naming.problem g.J.Naming.opening log) (calls_of e.asked) = rw c.front.view_is c.requires.legal in
    let r = one_longer g.J.Naming.problem g.J.Naming.opening c.front.inside.drafts log w e is i.0 i.2 told in
    (r.0, h.0 ∙ ap (λ s. s.book) a ∙ i.1, r.1)
