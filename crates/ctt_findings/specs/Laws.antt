-- What holds of findings.
use Rattle.std.specs.Prelude.{◌≡◌, ℕ, ◌+◌, ◌-◌, List, filter_map, sum_by, []}
use Rattle.ctt_problem.specs.Problem.{Problem}
use Rattle.ctt_problem.specs.Timetable.{IsTimetable}
use Rattle.ctt_problem.specs.declared.placed.Placed.{Placed}
use Rattle.ctt_rules.specs.Hard.{hard_counts}
use Rattle.ctt_rules.specs.Penalty.{penalty}
use Rattle.ctt_findings.specs.Findings.{by_course, lectures_finding, conflict_findings, availability_finding, occupancy_from, barred_finding, blocked_finding, capacity_finding, days_finding, compactness_findings, stability_finding}
use Rattle.ctt_findings.specs.declared.finding.Finding.{Finding}
use Rattle.ctt_findings.specs.declared.finding.Finding.TheVariants.{Lectures, Capacity, Days, Compactness, Stability}

-- the points of a finding: for missing or surplus lectures their number, for another hard rule one
abbrev pub points_of : Finding → ℕ
points_of (Lectures c placed stated) = (stated - placed) + (placed - stated)
points_of (Capacity l points) = points
points_of (Days c days minimum points) = points
points_of (Compactness q l points) = points
points_of (Stability c rooms points) = points
points_of finding = 1

-- for each kind of finding, the sum of the points is the report's count
pub record AreCounted (i : Problem) (t : List Placed) : Type 0 where
  pub lectures : sum_by points_of (by_course i t (lectures_finding i)) ≡ (hard_counts i t).lectures
  pub conflicts : sum_by points_of (conflict_findings i t) ≡ (hard_counts i t).conflicts
  pub availability : sum_by points_of (filter_map (availability_finding i) t) ≡ (hard_counts i t).availability
  pub occupancy : sum_by points_of (occupancy_from [] t) ≡ (hard_counts i t).occupancy
  pub barred : sum_by points_of (filter_map (barred_finding i) t) ≡ (hard_counts i t).barred
  pub blocked : sum_by points_of (filter_map (blocked_finding i) t) ≡ (hard_counts i t).blocked
  pub capacity : sum_by points_of (filter_map (capacity_finding i) t) ≡ (penalty i t).capacity
  pub days : sum_by points_of (by_course i t (days_finding i)) ≡ (penalty i t).days
  pub compactness : sum_by points_of (compactness_findings i t) ≡ (penalty i t).compactness
  pub stability : sum_by points_of (by_course i t (stability_finding i)) ≡ (penalty i t).stability

abbrev pub FindingsAreCounted : Type 0
FindingsAreCounted = (i : Problem) (t : List Placed) → IsTimetable i t → AreCounted i t
