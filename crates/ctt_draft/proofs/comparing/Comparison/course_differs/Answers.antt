use Rattle.ctt_edits.specs.declared.row.Row.TheVariants.{Course}
use Rattle.ctt_draft.specs.Comparisons.{base_of}
use Rattle.ctt_draft.proofs.FrameLemmas.{differs_by}
use Rattle.ctt_draft.proofs.comparing.Comparison.course_differs.Goals as goal

pub returns : goal.returns
returns g c = differs_by c.same_course_row.result (base_of c.args.self.now) c.args.self.now.sheet (Course c.args.course) c.same_course_row.ensures
