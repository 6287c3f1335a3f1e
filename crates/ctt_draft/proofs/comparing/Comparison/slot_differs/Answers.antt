use Rattle.ctt_edits.specs.declared.row.Row.TheVariants.{Slot}
use Rattle.ctt_draft.specs.Comparisons.{base_of}
use Rattle.ctt_draft.proofs.FrameLemmas.{differs_by}
use Rattle.ctt_draft.proofs.comparing.Comparison.slot_differs.Goals as goal

pub returns : goal.returns
returns g c = differs_by c.same_slot_row.result (base_of c.args.self.now) c.args.self.now.sheet (Slot c.args.slot) c.same_slot_row.ensures
