use Rattle.std.proofs.Common.{◌≤◌, drop, length}
use Rattle.ctt_log.specs.Recovery.{HasNoNewline}
use Rattle.ctt_log.proofs.blocks.lines_len.Given as goal

abbrev pub invariant-loop-len : goal.invariant-loop-len
invariant-loop-len l = (l.len ≤ length l.text) × HasNoNewline (drop l.len l.text)

abbrev pub decreases-loop-len : goal.decreases-loop-len
decreases-loop-len l = l.len
