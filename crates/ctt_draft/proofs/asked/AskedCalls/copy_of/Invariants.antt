use Rattle.std.proofs.Common.{◌≡◌, take}
use Rattle.ctt_draft.proofs.asked.AskedCalls.copy_of.Given as goal

-- the calls copied so far
abbrev pub invariant-loop-one : goal.invariant-loop-one
invariant-loop-one l = l.list.items ≡ take l.one-index l.asked
