use Rattle.std.proofs.Common.{◌≡◌, ◌+◌, drop, map}
use Rattle.ctt_commands.specs.Pairs.{name_pair, pairs_from}
use Rattle.ctt_commands.proofs.PairLemmas.{pairs_ahead}
use Rattle.ctt_commands.proofs.pairs.read_lines.Given as goal

-- the pairs so far, and those of the lines that are left
abbrev pub invariant-loop-line : goal.invariant-loop-line
invariant-loop-line l = record {
  ahead : pairs_ahead (map name_pair l.pairs.items) (pairs_from (l.number + 1) (map (λ line. line.now) (drop l.line-index l.lines))) ≡ pairs_from 1 (map (λ line. line.now) l.lines);
  counted : l.number ≡ l.line-index;
}
