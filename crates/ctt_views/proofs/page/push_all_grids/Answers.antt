use Rattle.std.proofs.Common.{string_bytes}
use Rattle.ctt_problem.specs.Problem.{slot_count}
use Rattle.ctt_views.specs.Bodies.{all_grids, before_grids, findings_part, script_end}
use Rattle.ctt_views.specs.Page.{HasFindings}
use Rattle.ctt_views.specs.Parts.{parts}
use Rattle.ctt_views.specs.Views.{only_kind, view_with}
use Rattle.ctt_views.specs.Weeks.{by_slot}
use Rattle.ctt_views.specs.declared.script.TheConstants.{SCRIPT}
use Rattle.ctt_views.proofs.TextLemmas.{four_more}
use Rattle.ctt_views.proofs.page.push_all_grids.Goals as goal

pub returns : goal.returns
unfolding all_grids
returns c =
    let i = c.args.instance.now in
    let t = c.args.timetable.now in
    let days = c.args.days.now in
    let a = c.args.assessment.now in
    let only = only_kind i c.args.options.now.grids in
    let v = view_with only c.args.options.now.plain in
    let told : HasFindings i t v days a.hard a.cost a.lawful a.complete (string_bytes c.push_week.new.page) (string_bytes c.push_found.new.page) =
    rw (c.new-view.ensures, c.only_kind-only.ensures) at c.in_ok-push_found.ensures in
    record {
      found = told.found;
      ranked = told.ranked;
      shown = four_more (string_bytes c.args.page.now) (string_bytes c.push_before_grids.new.page) (string_bytes c.push_week.new.page) (string_bytes c.push_found.new.page) (string_bytes c.push_script_end.new.page)
          (before_grids i only v) (parts i (by_slot (slot_count i) t) v days) (findings_part i v days told.found a.hard a.cost a.lawful a.complete) (script_end SCRIPT.now)
          (rw (c.new-view.ensures, c.only_kind-only.ensures) at c.in_ok-push_before_grids.ensures) (rw (c.new-view.ensures, c.only_kind-only.ensures) at c.in_ok-push_week.ensures) told.shown c.in_ok-push_script_end.ensures;
    }
