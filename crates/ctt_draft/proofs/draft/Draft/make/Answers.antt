use Rattle.std.proofs.Common.{rules, ◌∙◌}
use Rattle.ctt_board.specs.Changes.{ChangeFits}
use Rattle.ctt_draft.proofs.DraftSteps.{edit_fits_here, edit_within, made_draft}
use Rattle.ctt_draft.proofs.draft.Draft.make.Goals as goal

pub record-requires-clause-within : goal.record-requires-clause-within
record-requires-clause-within g c = edit_within _ _ _ _ _ _ _ _ _ c.self.invariant c.self.view_is c.args.edit c.cells.result.now c.requires.fits (c.cells.ensures.value ∙ c.requires.change)

pub apply-requires : goal.apply-requires
apply-requires g c =
    let fits : ChangeFits (g.S.Rooms.problem c.self.inside.present) c.args.change (g.S.Rooms.list c.self.inside.present) = edit_fits_here _ _ _ _ _ _ _ _ _ c.self.invariant c.self.view_is c.args.edit c.args.change (search rules) c.requires.fits c.requires.accepted c.requires.change in
    search rules

pub invariant_of-self-2 : goal.invariant_of-self-2
invariant_of-self-2 g c = (made_draft _ _ _ _ _ _ _ _ _ c.self.invariant c.self.view_is _ _ c.args.edit c.args.change _ _ _ _ (search rules) c.requires.fits c.requires.accepted c.requires.change c.apply.ensures.problem c.apply.ensures.list (search rules) (search rules) c.add.ensures).0

pub returns-clause-ok : goal.returns-clause-ok
returns-clause-ok g c = (made_draft _ _ _ _ _ _ _ _ _ c.self.invariant c.self.view_is _ _ c.args.edit c.args.change _ _ c.push-2.new.self.items c.record.new.self (search rules) c.requires.fits c.requires.accepted c.requires.change c.apply.ensures.problem c.apply.ensures.list (search rules) (search rules) c.add.ensures).1
