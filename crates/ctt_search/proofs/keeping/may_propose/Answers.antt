use Rattle.std.proofs.Common.{◌≡◌, ◌∙◌, true, List, sym, ap, ap₂, subst}
use Rattle.ctt_problem.specs.Problem.{Problem}
use Rattle.ctt_problem.specs.declared.placed.Placed.{Placed}
use Rattle.ctt_search.specs.Scores.{score, is_at_most}
use Rattle.ctt_search.specs.Wishes.{KeepsPins, IsWithin, IsProposal}
use Rattle.ctt_search.specs.declared.score.Score.{Score}
use Rattle.ctt_search.proofs.WishLemmas.{holds, then}
use Rattle.ctt_search.proofs.keeping.may_propose.Goals as goal

pub returns : goal.returns
returns g c =
    let i : Problem = g.S.Rooms.problem c.args.sheet.now in
    let start : List Placed = g.S.Rooms.list c.args.start.now in
    let t : List Placed = g.S.Rooms.list c.args.sheet.now in
    let no_worse : is_at_most c.args.aim (score i start t) (score i start start) ≡ true =
    ap₂ (is_at_most c.args.aim) (sym c.requires.reached) (sym c.requires.own) ∙ sym c.is_at_most.ensures ∙ c.if-not-is_at_most.false in
    let few = subst (IsWithin c.args.wish.now.most_changes) (ap (λ (s : Score). s.changes) c.requires.reached)
    (holds c.is_within.result (IsWithin c.args.wish.now.most_changes c.args.reached.now.changes) c.is_within.ensures c.if-not-is_within.false) in
    then c.keeps_pins.result (KeepsPins i c.args.wish.now.pins start t) (IsProposal i c.args.aim c.args.wish.now.pins c.args.wish.now.most_changes start t) c.keeps_pins.ensures
    (λ pinned. record { lawful = c.lawful.ensures; pinned = pinned; no_worse = no_worse; few = few })
