use Rattle.std.proofs.Common.{◌≡◌, ◌++◌, ℕ, [], length, take}
use Rattle.ctt_problem.specs.Problem.{slot_count}
use Rattle.ctt_rules.specs.Earlier.{in_row}
use Rattle.ctt_findings.specs.Findings.{occupancy_from}
use Rattle.ctt_findings.proofs.TakenLemmas.{is_taken}
use Rattle.ctt_findings.proofs.occupancy.push_occupancy.Given as goal

abbrev pub invariant-loop-lecture : goal.invariant-loop-lecture
invariant-loop-lecture l = record {
  size : length l.taken ≡ slot_count l.instance;
  taken : (s r : ℕ) → in_row l.taken s r ≡ is_taken (take l.lecture-index l.timetable) s r;
  found : l.found.items ≡ l.initial.found.items ++ occupancy_from [] (take l.lecture-index l.timetable);
}
