use Rattle.std.proofs.Common.{◌≡◌, take, string_bytes}
use Rattle.ctt_text.specs.Written.{soltext}
use Rattle.ctt_text.proofs.solution.write.write_solution.Given as goal

-- the lines so far
abbrev pub invariant-loop-lecture : goal.invariant-loop-lecture
invariant-loop-lecture l = string_bytes l.text ≡ soltext l.instance (take l.lecture-index l.lectures)
