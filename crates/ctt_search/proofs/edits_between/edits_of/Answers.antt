use Rattle.std.proofs.Common.{rules, ◌≡◌, ◌∙◌, ◌++◌, List, map, sym, ap₂, subst}
use Rattle.std.specs.List.{AllByRecursion as Each}
use Rattle.ctt_problem.specs.Problem.{Problem}
use Rattle.ctt_problem.specs.Timetable.{Fits}
use Rattle.ctt_problem.specs.declared.placed.Placed.{Placed}
use Rattle.ctt_rules.specs.Hard.{Lawful}
use Rattle.ctt_search.specs.Between.{only_in, drop_of, place_of, edits_between, Leads}
use Rattle.ctt_search.proofs.edits_between.edits_of.Goals as goal

pub add_drops-requires : goal.add_drops-requires
add_drops-requires g c κs =
    let i : Problem = g.S.Rooms.problem c.args.start.now in
    let items : c.as_slice.result.now ≡ g.S.Rooms.list c.args.start.now = c.as_slice.ensures.value ∙ c.in_ok-before.ensures in
    let fits : Each (Fits (g.S.Rooms.problem c.args.proposed.now)) c.as_slice.result.now =
    subst (λ j. Each (Fits j) c.as_slice.result.now) (sym c.requires) (subst (Each (Fits i)) (sym items) c.lawful.ensures.timetable.fits) in
    search rules

pub add_places-requires : goal.add_places-requires
add_places-requires g c κs =
    let j : Problem = g.S.Rooms.problem c.args.proposed.now in
    let items : c.as_slice-2.result.now ≡ g.S.Rooms.list c.args.proposed.now = c.as_slice-2.ensures.value ∙ c.in_ok-after.ensures in
    let fits : Each (Fits (g.S.Rooms.problem c.args.start.now)) c.as_slice-2.result.now =
    subst (λ j. Each (Fits j) c.as_slice-2.result.now) c.requires (subst (Each (Fits j)) (sym items) c.lawful-2.ensures.timetable.fits) in
    search rules

pub returns : goal.returns
returns g c =
    let i : Problem = g.S.Rooms.problem c.args.start.now in
    let t : List Placed = g.S.Rooms.list c.args.start.now in
    let u : List Placed = g.S.Rooms.list c.args.proposed.now in
    let before : c.as_slice.result.now ≡ t = c.as_slice.ensures.value ∙ c.in_ok-before.ensures in
    let after : c.as_slice-2.result.now ≡ u = c.as_slice-2.ensures.value ∙ c.in_ok-after.ensures in
    let dropped : c.add_drops.new.edits.items ≡ map drop_of (only_in t u) =
    c.in_ok-add_drops.ensures ∙ ap₂ (λ es ls. es ++ map drop_of (only_in ls u)) c.new-edits.ensures.items before in
    let value : c.add_places.new.edits.items ≡ edits_between t u =
    c.in_ok-add_places.ensures ∙ ap₂ (λ es ls. es ++ map place_of (only_in ls t)) dropped after in
    record {
      value = value;
      leads = subst (λ es. Leads i t es u) (sym value) (c.edits_lead.ensures i t u c.lawful.ensures (subst (λ j. Lawful j u) c.requires c.lawful-2.ensures));
    }
