use Rattle.std.proofs.Common.{◌≤◌, drop, string_bytes}
use Rattle.std.specs.List.{AllByRecursion as Each}
use Rattle.ctt_draft.specs.Drafts.{AskedFits}
use Rattle.ctt_draft.specs.Undoing.{edits_done}
use Rattle.ctt_office.proofs.RedoLemmas.{IsRemaking}
use Rattle.ctt_office.proofs.redoing.make_all_again.Given as goal

-- the edits before these were redone or left out
abbrev pub invariant-loop-one : goal.invariant-loop-one
invariant-loop-one g l =
    IsRemaking l.instance l.fn.drafting l.drafting (string_bytes l.fn.omitted) (string_bytes l.omitted) l.made l.edits (edits_done l.asked) (edits_done (drop l.one-index l.asked))
    × (l.edits ≤ l.one-index) × (l.made ≤ l.edits) × Each (AskedFits l.instance) (drop l.one-index l.asked)
