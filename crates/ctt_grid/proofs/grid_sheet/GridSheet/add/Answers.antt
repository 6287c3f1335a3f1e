use Rattle.std.proofs.Common.{◌∙◌, sym, ap, subst}
use Rattle.ctt_problem.specs.Timetable.{Fits, with}
use Rattle.ctt_rules.specs.Hard.{Lawful}
use Rattle.ctt_rules.specs.Penalty.{penalty}
use Rattle.ctt_grid.specs.Grids.{timetable_in}
use Rattle.ctt_grid.specs.Seen.{Sees}
use Rattle.ctt_grid.proofs.GridLemmas.{sees_now}
use Rattle.ctt_grid.proofs.CompactnessLemmas.{none_yet}
use Rattle.ctt_board.proofs.MoreLemmas.{more_with}
use Rattle.ctt_grid.proofs.SheetLemmas.{cost_small, costs_more}
use Rattle.ctt_grid.proofs.grid_sheet.GridSheet.add.Goals as goal

pub with_lecture-self-inside-requires-clause-small : goal.with_lecture-self-inside-requires-clause-small
with_lecture-self-inside-requires-clause-small c = cost_small c.self.inside.instance.now c.self.inside.tables c.self.inside.cost c.self.invariant c.limits_hold.ensures

pub cost_delta-delta-requires-clause-own : goal.cost_delta-delta-requires-clause-own
cost_delta-delta-requires-clause-own c =
    let i = c.self.inside.instance.now in
    let l = c.args.lecture.now in
    let g = c.self.inside.tables in
    let t = timetable_in i g.rooms in
    let lawful : Lawful i (with l t) = subst (λ b. Lawful b.problem (with l b.list)) (sym c.self.view_is) c.requires.lawful in
    none_yet i l t (with l t) c.now.result (more_with l t) c.self.invariant.tables_are.lawful lawful (sees_now i t c.now.result g.counts c.self.invariant.tables_are.lawful c.self.invariant.tables_are.counts_are c.now.ensures.base c.now.ensures.removed c.now.ensures.added)

pub invariant_of-self : goal.invariant_of-self
invariant_of-self c =
    let i = c.self.inside.instance.now in
    let l = c.args.lecture.now in
    let g = c.self.inside.tables in
    let t = timetable_in i g.rooms in
    let fits : Fits i l = subst (λ b. Fits b.problem l) (sym c.self.view_is) c.requires.fits in
    let lawful : Lawful i (with l t) = subst (λ b. Lawful b.problem (with l b.list)) (sym c.self.view_is) c.requires.lawful in
    let sees : Sees i c.now.result t = sees_now i t c.now.result g.counts c.self.invariant.tables_are.lawful c.self.invariant.tables_are.counts_are c.now.ensures.base c.now.ensures.removed c.now.ensures.added in
    record {
      tables_are = c.add.ensures.tables;
      cost_is = costs_more i t (with l t) l c.now.result c.cost_delta-delta.result (more_with l t) c.self.invariant.tables_are.lawful lawful fits sees c.cost_delta-delta.ensures.value c.self.inside.cost c.with_lecture-self-inside.result c.self.invariant.cost_is c.with_lecture-self-inside.ensures ∙ ap (penalty i) (sym c.add.ensures.list);
    }

pub returns-clause-list : goal.returns-clause-list
returns-clause-list c = c.add.ensures.list ∙ ap (λ b. with c.args.lecture.now b.list) c.self.view_is
