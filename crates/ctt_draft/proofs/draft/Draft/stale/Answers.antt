use Rattle.std.proofs.Common.{◌∙◌, Ok, sym, ap}
use Rattle.std.specs.Option.{option_map}
use Rattle.ctt_edits.specs.declared.row.Row.TheVariants.{Slot}
use Rattle.ctt_draft.proofs.DraftSteps.{records_base}
use Rattle.ctt_draft.proofs.StaleLemmas.{stale_course, stale_slot, settles}
use Rattle.ctt_draft.proofs.draft.Draft.stale.Goals as goal

pub new-comparison-requires-clause-records : goal.new-comparison-requires-clause-records
new-comparison-requires-clause-records g c = records_base _ _ _ _ _ _ _ _ c.self.invariant

pub returns-in-Some-clause-row : goal.returns-in-Some-clause-row
returns-in-Some-clause-row g c = ap Ok (stale_course _ _ _ _ _ _ _ _ c.self.invariant c.self.view_is _ _ c.new-comparison.ensures _ _ c.first_course.ensures c.in-Some.is)

pub returns-in-Some-first_slot-clause-row : goal.returns-in-Some-first_slot-clause-row
returns-in-Some-first_slot-clause-row g c =
    ap Ok
    (sym (ap (option_map Slot) c.in-Some-first_slot.is)
    ∙ stale_slot _ _ _ _ _ _ _ _ c.self.invariant c.self.view_is _ _ c.new-comparison.ensures _ _ c.first_course.ensures c.in_default.is c.first_slot.ensures)

pub returns-clause-row : goal.returns-clause-row
returns-clause-row g c =
    ap Ok
    (sym (ap (option_map Slot) c.in_default-first_slot.is)
    ∙ stale_slot _ _ _ _ _ _ _ _ c.self.invariant c.self.view_is _ _ c.new-comparison.ensures _ _ c.first_course.ensures c.in_default.is c.first_slot.ensures)

pub returns-clause-fresh : goal.returns-clause-fresh
returns-clause-fresh g c = λ _. settles _ _ _ _ _ _ _ _ c.self.invariant c.self.view_is _ _ c.draft_frame.ensures c.settling_fits.ensures c.lawful.ensures c.requires.same
    (sym (ap (option_map Slot) c.in_default-first_slot.is)
    ∙ stale_slot _ _ _ _ _ _ _ _ c.self.invariant c.self.view_is _ _ c.new-comparison.ensures _ _ c.first_course.ensures c.in_default.is c.first_slot.ensures)
