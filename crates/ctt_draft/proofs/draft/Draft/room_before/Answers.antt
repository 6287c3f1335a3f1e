use Rattle.std.proofs.Common.{◌≡◌, ◌∙◌, ap, ap₂, take}
use Rattle.ctt_board.specs.Changes.{room_at, room_by}
use Rattle.ctt_draft.specs.DraftValues.{present}
use Rattle.ctt_draft.specs.Drafts.{calls_of, changes}
use Rattle.ctt_draft.specs.Undo.{all_cells, undo_of}
use Rattle.ctt_draft.proofs.UndoingLemmas.{room_was}
use Rattle.ctt_draft.proofs.draft.Draft.room_before.Goals as goal

pub returns : goal.returns
returns g c =
    let d = c.args.self.now in
    let there : c.room_at-present.result ≡ room_at c.args.course c.args.slot (present d) = c.room_at-present.ensures ∙ ap (room_at c.args.course c.args.slot) c.present.ensures.list in
    let base : c.room_after-base.result ≡ room_by (undo_of d.base (changes d.problem d.base (calls_of d.asked))) c.args.course c.args.slot (room_at c.args.course c.args.slot (present d)) =
    c.room_after-base.ensures ∙ ap₂ (λ cells o. room_by cells c.args.course c.args.slot o) c.undo.ensures there in
    c.room_after_all.ensures
    ∙ ap₂ (λ xs o. room_by (all_cells (take c.args.made xs)) c.args.course c.args.slot o) c.changes.ensures.value base
    ∙ room_was d c.lawful.ensures.base c.lawful.ensures.told.fit c.args.made c.args.course c.args.slot
