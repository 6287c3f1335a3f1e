use Rattle.std.proofs.Common.{rules, ◌≡◌, ◌<◌, ◌∙◌, Some, set, sym, ap, length, length-set, arith}
use Rattle.ctt_core.specs.Desks.{DeskValue}
use Rattle.ctt_core.proofs.StepLemmas.{draft_fits}
use Rattle.ctt_core.proofs.desk.Desk.refresh.Goals as goal

pub refresh-requires : goal.refresh-requires
refresh-requires g c κs =
    let same : g.S.Rooms.problem c.self.inside.sheet ≡ c.drafting.inside.draft.value.problem =
    c.self.invariant.same ∙ ap (λ (v : DeskValue). v.problem) c.self.view_is
    ∙ sym (draft_fits _ _ c.args.self.now c.args.planner _ _ _ (ap (λ (v : DeskValue). v.problem) c.self.view_is) (ap (λ (v : DeskValue). v.drafts) c.self.view_is) c.self.invariant.drafts_of c.requires c.get-place.ensures c.index_mut.ensures.value (c.in-Some.is ∙ ap Some (sym c.drafting.view_is))) in
    search rules

pub give_up-requires : goal.give_up-requires
give_up-requires g c κs =
    let within : c.args.planner < length (set c.self.inside.drafts.items c.get-place.result (Some (record { since = c.drafting.inside.since; draft = c.refresh.new.self }))) =
    omega (arith, c.requires, length-set c.self.inside.drafts.items c.get-place.result (Some (record { since = c.drafting.inside.since; draft = c.refresh.new.self })), ap length (ap (λ (v : DeskValue). v.drafts) c.self.view_is)) in
    search rules
