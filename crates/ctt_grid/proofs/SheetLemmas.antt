-- A sheet of tables after one lecture is added, and after one is removed.
use Rattle.std.proofs.Common.{◌≡◌, ◌≤◌, List, Some, ◌∙◌, sym, subst, ap, ap₂, arith}
use Rattle.ctt_problem.specs.Problem.{Problem, IsProblem}
use Rattle.ctt_problem.specs.Timetable.{Fits, without}
use Rattle.ctt_problem.specs.declared.placed.Placed.{Placed}
use Rattle.ctt_rules.specs.Hard.{Lawful}
use Rattle.ctt_rules.specs.Penalty.{penalty, total}
use Rattle.ctt_rules.specs.declared.cost.Cost.{Cost}
use Rattle.ctt_board.specs.Changes.{room_at}
use Rattle.ctt_board.proofs.MoreLemmas.{IsMore, more_without}
use Rattle.ctt_grid.specs.CostDelta.{DiffersBy, cost_delta, with_delta, without_delta}
use Rattle.ctt_grid.specs.Counts.{AreCounts, HaveLecture}
use Rattle.ctt_grid.specs.Seen.{Sees, seen_delta}
use Rattle.ctt_grid.specs.Grids.{timetable_in, AreTables, ArePlaces, IsGridSheet}
use Rattle.ctt_grid.specs.declared.counts.Counts.{Counts}
use Rattle.ctt_grid.specs.declared.cost_delta.CostDelta.{CostDelta}
use Rattle.ctt_grid.specs.declared.counts_after.CountsAfter.{CountsAfter}
use Rattle.ctt_grid.specs.declared.tables.Tables.{Tables}
use Rattle.ctt_board.proofs.CostLemmas.{penalty_small}
use Rattle.ctt_grid.proofs.CostDeltaLemmas.{differs_by}
use Rattle.ctt_grid.proofs.CountsLemmas.{have_lecture}
use Rattle.ctt_grid.proofs.SeenLemmas.{delta_is}
use Rattle.ctt_grid.proofs.GridLemmas.{made, cost_with, cost_without}

pub cost_small : (i : Problem) (g : Tables) (cost : Cost) → IsGridSheet i g cost → IsProblem i → total cost ≤ 7000000000000000
cost_small i g cost h p = omega (arith, ap total h.cost_is, penalty_small i p (timetable_in i g.rooms) h.tables_are.lawful.timetable)

-- a lecture that is there is counted
pub has_lecture : (i : Problem) (g : Tables) (l : Placed) → IsProblem i → AreTables i g → Fits i l → room_at l.course l.slot (timetable_in i g.rooms) ≡ Some l.room → HaveLecture i l g.counts
has_lecture i g l p h fits there = have_lecture i l (without l.course l.slot (timetable_in i g.rooms)) (timetable_in i g.rooms) (more_without l.course l.slot l.room (timetable_in i g.rooms) h.lawful.timetable.ascending there) fits g.counts p h.counts_are

-- the look-up tables, with counts
pub places : (i : Problem) (g : Tables) (k : Counts) → AreTables i g → ArePlaces i (timetable_in i g.rooms) (record g { counts = k })
places i g k h = record { rooms_are = h.rooms_are; courses_are = h.courses_are; courses_in_slot_are = h.courses_in_slot_are }

pub made_of : (i : Problem) (u : List Placed) (g : Tables) (k : Counts) → Lawful i u → ArePlaces i u g → g.counts ≡ k → AreCounts i u k → AreTables i g × (timetable_in i g.rooms ≡ u)
made_of i u g k lawful h e counted = made i u g lawful h.rooms_are h.courses_are h.courses_in_slot_are (subst (AreCounts i u) (sym e) counted)

-- the costs with one lecture more, and with one less
module _ (i : Problem) (t u : List Placed) (l : Placed) (v : CountsAfter) (j : CostDelta) (more : IsMore l t u) (lawful : Lawful i t) (lawful' : Lawful i u) (fits : Fits i l) (sees : Sees i v t) (is : j ≡ seen_delta i v l) where
  same : j ≡ cost_delta i t l
  same = is ∙ delta_is i v t sees l fits lawful.timetable.fits

  differs : DiffersBy i t u (cost_delta i t l)
  differs = differs_by i l t u more fits lawful.timetable.fits lawful'.timetable.fits

  pub costs_more : (cost cost' : Cost) → cost ≡ penalty i t → cost' ≡ with_delta cost j → cost' ≡ penalty i u
  costs_more cost cost' e e' = e' ∙ ap₂ with_delta e same ∙ cost_with i t u (cost_delta i t l) differs

  pub costs_less : (cost cost' : Cost) → cost ≡ penalty i u → cost' ≡ without_delta cost j → cost' ≡ penalty i t
  costs_less cost cost' e e' = e' ∙ ap₂ without_delta e same ∙ cost_without i t u (cost_delta i t l) differs
