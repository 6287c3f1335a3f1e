-- How often the hard rules can be broken at most.
use Rattle.std.proofs.Common.{◌≡◌, ◌+◌, ◌-◌, ◌*◌, ◌≤◌, ◌<◌, ◌==◌, ◌&&◌, ◌^◌, ℕ, List, [], ◌∷◌, arith, length}
use Rattle.std.specs.List.{count_by}
use Rattle.std.proofs.lemmas.List.Sums.{count_by-le-length}
use Rattle.ctt_problem.specs.Lists.{sum_below}
use Rattle.ctt_problem.specs.Problem.{IsProblem, Problem, course_count, course_of, is_barred, is_blocked, is_unavailable, room_count, slot_count}
use Rattle.ctt_problem.specs.Timetable.{IsTimetable, course_row}
use Rattle.ctt_problem.specs.declared.placed.Placed.{Placed}
use Rattle.ctt_rules.specs.Hard.{barred_count, blocked_count, conflict_count, conflicts, hard_counts, missing_count, occupancy_count, unavailable_count}
use Rattle.ctt_rules.proofs.SumLemmas.{sum_below_le}
use Rattle.ctt_rules.proofs.TimetableLemmas.{few_lectures, lectures_small, row_is_short}
use Rattle.ctt_commands.specs.Rows.{violations}

few_conflicts : (i : Problem) (t : List Placed) → length t ≤ 4000000 → conflict_count i t ≤ length t * 4000000
few_conflicts i [] few = omega arith
few_conflicts i (x ∷ xs) few = omega (arith, few, count_by-le-length (conflicts i x) xs, few_conflicts i xs (omega (arith, few)))

module _ (i : Problem) (t : List Placed) (h : IsTimetable i t) (p : IsProblem i) where
  few_missing : missing_count i t ≤ course_count i * 1000002000
  few_missing = sum_below_le (λ c. ((course_of i c).lectures - length (course_row c t)) + (length (course_row c t) - (course_of i c).lectures)) 1000002000 (course_count i)
      (λ c. omega (arith, row_is_short i t h c, p.slots_few, lectures_small i p c))

  few_in : (r : ℕ) → sum_below (λ s. count_by (λ (l : Placed). l.room == r && l.slot == s) t - 1) (slot_count i) ≤ 8000000000
  few_in r =
      let each : sum_below (λ s. count_by (λ (l : Placed). l.room == r && l.slot == s) t - 1) (slot_count i) ≤ slot_count i * 4000000 = sum_below_le (λ s. count_by (λ (l : Placed). l.room == r && l.slot == s) t - 1) 4000000 (slot_count i)
      (λ s. omega (arith, few_lectures i t h p, count_by-le-length (λ (l : Placed). l.room == r && l.slot == s) t)) in
      omega (arith, each, p.slots_few)

  few_shared : occupancy_count i t ≤ room_count i * 8000000000
  few_shared = sum_below_le (λ r. sum_below (λ s. count_by (λ (l : Placed). l.room == r && l.slot == s) t - 1) (slot_count i)) 8000000000 (room_count i) few_in

  -- the sum of the hard counts is small
  pub few_violations : violations (hard_counts i t) < 2 ^ 64
  few_violations = omega (
    arith,
    few_missing,
    few_shared,
    few_conflicts i t (few_lectures i t h p),
    few_lectures i t h p,
    p.courses_few,
    p.rooms_few,
    count_by-le-length (λ l. is_unavailable i l.course l.slot) t,
    count_by-le-length (λ l. is_barred i l.course l.room) t,
    count_by-le-length (λ l. is_blocked i l.room l.slot) t,
  )
