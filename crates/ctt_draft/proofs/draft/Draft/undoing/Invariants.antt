use Rattle.std.proofs.Common.{◌≤◌, drop}
use Rattle.ctt_draft.specs.Drafts.{calls_of, changes}
use Rattle.ctt_draft.proofs.UndoingLemmas.{IsUnstacking}
use Rattle.ctt_draft.proofs.draft.Draft.undoing.Given as goal

-- the earlier calls made this many changes, and left this stack of inverses
abbrev pub invariant-loop-asked : goal.invariant-loop-asked
invariant-loop-asked g l = IsUnstacking l.self.problem l.self.base (calls_of l.self.asked) (changes l.self.problem l.self.base (calls_of l.self.asked)) l.made l.stack.items (drop l.asked-index l.all) × (l.made ≤ l.asked-index)
