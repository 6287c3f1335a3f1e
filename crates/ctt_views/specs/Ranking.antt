-- The findings in the order in which a planner mends them.
use Rattle.std.specs.Prelude.{ℕ, ◌-◌, ◌^◌, ◌==◌, List, codes, if◌then◌else◌}
use Rattle.std.specs.List.Sorted.{IsNonDecreasingBy, IsPermutation, IsStableByKey}
use Rattle.std.specs.Ordering.{nat_cmp}
use Rattle.ctt_findings.specs.declared.finding.Finding.{Finding}
use Rattle.ctt_findings.specs.declared.finding.Finding.TheVariants.{Lectures, Conflict, Availability, Occupancy, Barred, Blocked, Capacity, Days, Compactness, Stability}

-- the word that names the kind of a finding
abbrev pub kind_word : Finding → List ℕ
kind_word (Lectures c placed stated) = codes "lectures"
kind_word (Conflict c d s why) = codes "conflict"
kind_word (Availability l) = codes "availability"
kind_word (Occupancy l) = codes "occupancy"
kind_word (Barred l) = codes "barred"
kind_word (Blocked l) = codes "blocked"
kind_word (Capacity l n) = codes "capacity"
kind_word (Days c days minimum n) = codes "days"
kind_word (Compactness q l n) = codes "compactness"
kind_word (Stability c rooms n) = codes "stability"

-- the points of a finding; what breaks a hard rule has none
abbrev pub points : Finding → ℕ
points (Lectures c placed stated) = 0
points (Conflict c d s why) = 0
points (Availability l) = 0
points (Occupancy l) = 0
points (Barred l) = 0
points (Blocked l) = 0
points (Capacity l n) = n
points (Days c days minimum n) = n
points (Compactness q l n) = n
points (Stability c rooms n) = n

-- the rank of a finding: 0 if it has no points, or else lower for more of them
abbrev pub rank : Finding → ℕ
rank f = if points f == 0 then 0 else 2 ^ 64 - 1 - points f

-- the second list has the findings of the first: what breaks hard rules, and then what costs
-- points, more points first; findings of equal rank are in the order of the first list
pub record AreRanked (found ranked : List Finding) : Type 0 where
  pub all : IsPermutation found ranked
  pub falling : IsNonDecreasingBy rank ranked
  pub stable : IsStableByKey rank nat_cmp found ranked
