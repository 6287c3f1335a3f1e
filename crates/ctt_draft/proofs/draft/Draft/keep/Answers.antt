use Rattle.std.proofs.Common.{rules}
use Rattle.ctt_draft.proofs.DraftSteps.{draft_kept}
use Rattle.ctt_draft.proofs.draft.Draft.keep.Goals as goal

pub invariant_of-self-2 : goal.invariant_of-self-2
invariant_of-self-2 g c = draft_kept _ _ _ _ _ _ _ _ _ c.self.invariant c.self.view_is _ _ c.args.call c.args.told.now (search rules) c.requires.fits c.requires.told c.requires.still c.add.ensures
