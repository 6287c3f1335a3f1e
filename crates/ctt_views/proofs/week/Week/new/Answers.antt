use Rattle.std.proofs.Common.{◌∙◌, map, arith}
use Rattle.std.proofs.lemmas.List.{length-map}
use Rattle.ctt_problem.specs.Problem.{slot_count}
use Rattle.ctt_rules.proofs.TimetableLemmas.{slots_fit}
use Rattle.ctt_views.proofs.BySlotLemmas.{by_slot_is, week_fits}
use Rattle.ctt_views.proofs.week.Week.new.Goals as goal

pub lectures_by_slot-requires : goal.lectures_by_slot-requires
lectures_by_slot-requires c = rw c.slots-count.ensures.exact (slots_fit c.args.instance.now c.args.timetable.now c.requires.fits)

pub returns-clause-rows : goal.returns-clause-rows
returns-clause-rows c =
    by_slot_is (map (λ v. v.items) c.in_ok-slots.slots.items) (slot_count c.args.instance.now) c.args.timetable.now (length-map c.in_ok-slots.slots.items (λ v. v.items) ∙ c.in_ok-slots.ensures.size ∙ c.slots-count.ensures.exact) (λ s lt. c.in_ok-slots.ensures.rows s (omega (arith, lt, c.slots-count.ensures.exact)))

pub returns-clause-fits : goal.returns-clause-fits
returns-clause-fits c =
    rw (by_slot_is (map (λ v. v.items) c.in_ok-slots.slots.items) (slot_count c.args.instance.now) c.args.timetable.now (length-map c.in_ok-slots.slots.items (λ v. v.items) ∙ c.in_ok-slots.ensures.size ∙ c.slots-count.ensures.exact) (λ s lt. c.in_ok-slots.ensures.rows s (omega (arith, lt, c.slots-count.ensures.exact))))
    (week_fits c.args.instance.now c.args.timetable.now c.requires.fits)
