use Rattle.std.proofs.Common.{◌∙◌, ap}
use Rattle.ctt_board.specs.Changes.{holder_at}
use Rattle.ctt_draft.specs.Comparisons.{Compared}
use Rattle.ctt_draft.proofs.HeldLemmas.{holder_fits}
use Rattle.ctt_draft.proofs.comparing.Comparison.agrees_in_room.Goals as goal

pub is_none_or_recorded-requires-clause-course : goal.is_none_or_recorded-requires-clause-course
is_none_or_recorded-requires-clause-course g c =
    holder_fits c.args.self.now.problem c.args.slot c.args.room c.args.self.now.present c.holder-here.result c.are_timetables.ensures.present
    (c.holder-here.ensures ∙ ap (λ (v : Compared). holder_at c.args.slot c.args.room v.present) c.self.view_is)

pub is_none_or_recorded-requires-then-is_none_or_recorded-clause-course : goal.is_none_or_recorded-requires-then-is_none_or_recorded-clause-course
is_none_or_recorded-requires-then-is_none_or_recorded-clause-course g c =
    holder_fits c.args.self.now.problem c.args.slot c.args.room c.args.self.now.sheet c.holder-there.result c.are_timetables.ensures.sheet
    (c.holder-there.ensures ∙ ap (λ (v : Compared). holder_at c.args.slot c.args.room v.sheet) c.self.view_is)
