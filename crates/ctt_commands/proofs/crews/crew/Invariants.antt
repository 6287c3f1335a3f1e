use Rattle.std.proofs.Common.{◌≡◌, map, take}
use Rattle.ctt_commands.proofs.crews.crew.Given as goal

-- each text has its place
abbrev pub invariant-loop-text : goal.invariant-loop-text
invariant-loop-text g l = map (λ s. s.now) l.scripts.items ≡ map (λ t. t.items) (take l.text-index l.texts)
