use Rattle.std.proofs.Common.{◌≡◌, ◌∙◌, Some, sym, ap, subst}
use Rattle.ctt_problem.specs.Timetable.{Fits, without}
use Rattle.ctt_rules.specs.Penalty.{penalty}
use Rattle.ctt_board.specs.Changes.{room_at}
use Rattle.ctt_grid.specs.Counts.{AreCounts}
use Rattle.ctt_grid.specs.Grids.{timetable_in}
use Rattle.ctt_grid.specs.Seen.{Sees}
use Rattle.ctt_grid.proofs.GridLemmas.{sees_now}
use Rattle.ctt_board.proofs.LawfulLemmas.{without_lawful}
use Rattle.ctt_grid.proofs.CompactnessLemmas.{none_yet}
use Rattle.ctt_board.proofs.MoreLemmas.{more_without}
use Rattle.ctt_grid.proofs.SheetLemmas.{cost_small, costs_less}
use Rattle.ctt_grid.proofs.grid_sheet.GridSheet.remove.Goals as goal

pub without_lecture-self-inside-requires-clause-small : goal.without_lecture-self-inside-requires-clause-small
without_lecture-self-inside-requires-clause-small c = cost_small c.self.inside.instance.now c.self.inside.tables c.self.inside.cost c.self.invariant c.limits_hold.ensures

pub cost_delta-delta-requires-clause-own : goal.cost_delta-delta-requires-clause-own
cost_delta-delta-requires-clause-own c =
    let i = c.self.inside.instance.now in
    let l = c.args.lecture.now in
    let t = timetable_in i c.self.inside.tables.rooms in
    let left = without l.course l.slot t in
    let there : room_at l.course l.slot t ≡ Some l.room = subst (λ b. room_at l.course l.slot b.list ≡ Some l.room) (sym c.self.view_is) c.requires.there in
    let more = more_without l.course l.slot l.room t c.self.invariant.tables_are.lawful.timetable.ascending there in
    let counted : AreCounts i left c.remove.new.self.counts = subst (λ u. AreCounts i u c.remove.new.self.counts) c.remove.ensures.list c.remove.ensures.tables.counts_are in
    none_yet i l left t c.now.result more (without_lawful i t l.course l.slot c.self.invariant.tables_are.lawful) c.self.invariant.tables_are.lawful (sees_now i left c.now.result c.remove.new.self.counts (without_lawful i t l.course l.slot c.self.invariant.tables_are.lawful) counted c.now.ensures.base c.now.ensures.removed c.now.ensures.added)

pub invariant_of-self : goal.invariant_of-self
invariant_of-self c =
    let i = c.self.inside.instance.now in
    let l = c.args.lecture.now in
    let t = timetable_in i c.self.inside.tables.rooms in
    let left = without l.course l.slot t in
    let fits : Fits i l = subst (λ b. Fits b.problem l) (sym c.self.view_is) c.requires.fits in
    let there : room_at l.course l.slot t ≡ Some l.room = subst (λ b. room_at l.course l.slot b.list ≡ Some l.room) (sym c.self.view_is) c.requires.there in
    let more = more_without l.course l.slot l.room t c.self.invariant.tables_are.lawful.timetable.ascending there in
    let counted : AreCounts i left c.remove.new.self.counts = subst (λ u. AreCounts i u c.remove.new.self.counts) c.remove.ensures.list c.remove.ensures.tables.counts_are in
    let sees : Sees i c.now.result left = sees_now i left c.now.result c.remove.new.self.counts (without_lawful i t l.course l.slot c.self.invariant.tables_are.lawful) counted c.now.ensures.base c.now.ensures.removed c.now.ensures.added in
    record {
      tables_are = c.remove.ensures.tables;
      cost_is = costs_less i left t l c.now.result c.cost_delta-delta.result more (without_lawful i t l.course l.slot c.self.invariant.tables_are.lawful) c.self.invariant.tables_are.lawful fits sees c.cost_delta-delta.ensures.value c.self.inside.cost c.without_lecture-self-inside.result c.self.invariant.cost_is c.without_lecture-self-inside.ensures ∙ ap (penalty i) (sym c.remove.ensures.list);
    }

pub returns-clause-list : goal.returns-clause-list
returns-clause-list c = c.remove.ensures.list ∙ ap (λ b. without c.args.lecture.now.course c.args.lecture.now.slot b.list) c.self.view_is
