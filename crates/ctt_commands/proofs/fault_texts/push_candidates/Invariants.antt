use Rattle.std.proofs.Common.{◌≡◌, ◌++◌, drop, string_bytes}
use Rattle.std.specs.List.{flat_map}
use Rattle.ctt_commands.specs.FaultTexts.{refusal_if}
use Rattle.ctt_commands.specs.declared.group.Candidate.{Candidate}
use Rattle.ctt_commands.proofs.fault_texts.push_candidates.Given as goal

-- the lines so far, and those of the files that are left
abbrev pub invariant-loop-candidate : goal.invariant-loop-candidate
invariant-loop-candidate l = string_bytes l.lines ++ flat_map (λ (candidate : Candidate). refusal_if l.point (string_bytes candidate.file) candidate.solution) (drop l.candidate-index l.candidates)
    ≡ string_bytes l.initial.lines ++ flat_map (λ (candidate : Candidate). refusal_if l.point (string_bytes candidate.file) candidate.solution) l.candidates
