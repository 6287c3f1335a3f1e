use Rattle.std.proofs.Common.{◌≡◌, ◌≤◌, ◌-◌}
use Rattle.ctt_text.specs.Entries.{curriculum_in}
use Rattle.ctt_text.proofs.entries.curriculum_in.Given as goal

abbrev pub invariant-loop-number : goal.invariant-loop-number
invariant-loop-number l = (curriculum_in (l.count - l.number) l.number l.left l.words ≡ curriculum_in l.count 0 l.place l.initial.words) × (l.number ≤ l.count)
