use Rattle.std.proofs.Common.{◌≡◌, ◌<◌, ℕ, [], map, get_or, length, take}
use Rattle.ctt_problem.specs.Timetable.{slot_row}
use Rattle.ctt_views.proofs.week.add_lectures.Given as goal

abbrev pub invariant-loop-lecture : goal.invariant-loop-lecture
invariant-loop-lecture l = record {
  size : length l.slots ≡ length l.fn.slots;
  rows : (s : ℕ) → s < length l.fn.slots → get_or (map (λ v. v.items) l.slots) s [] ≡ slot_row s (take l.lecture-index l.timetable);
}
