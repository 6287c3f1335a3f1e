use Rattle.std.proofs.Common.{◌≡◌, ◌++◌, drop, string_bytes}
use Rattle.std.specs.List.{flat_map}
use Rattle.ctt_commands.specs.FaultTexts.{refusals_in}
use Rattle.ctt_commands.proofs.fault_texts.refusals.Given as goal

-- the lines so far, and those of the groups that are left
abbrev pub invariant-loop-group : goal.invariant-loop-group
invariant-loop-group l = string_bytes l.lines ++ flat_map (refusals_in l.point) (drop l.group-index l.groups) ≡ flat_map (refusals_in l.point) l.groups
