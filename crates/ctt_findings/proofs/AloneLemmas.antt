-- The lectures of a course that are isolated in a curriculum, by marks on slots.
use Rattle.std.proofs.Common.{◌≡◌, ℕ, ◌-◌, ◌+◌, ◌<◌, Bool, List, not, ◌&&◌, ◌||◌, ltb, sym, ◌∙◌, ap, ap₂}
use Rattle.std.specs.List.{filter_map, list_any}
use Rattle.ctt_problem.specs.Problem.{Problem, members, period_of, slot_count}
use Rattle.ctt_problem.specs.Timetable.{IsTimetable, Fits, course_row}
use Rattle.ctt_problem.specs.declared.placed.Placed.{Placed}
use Rattle.ctt_problem.proofs.TimetableLemmas.{Each-map}
use Rattle.ctt_rules.specs.Neighbours.{busy, is_beside}
use Rattle.ctt_rules.specs.Penalty.{is_alone, next_to, lectures_of}
use Rattle.ctt_rules.proofs.NeighbourLemmas.{neighbour_is}
use Rattle.ctt_rules.proofs.SlotLemmas.{periods_above}
use Rattle.ctt_rules.proofs.TimetableLemmas.{row_fits}
use Rattle.ctt_findings.specs.Findings.{alone_of, compactness_finding}
use Rattle.ctt_findings.proofs.GrowLemmas.{filter_map_same}

pub alone_is : (i : Problem) (t : List Placed) → IsTimetable i t → (q c : ℕ) (marks : ℕ → Bool) → ((s : ℕ) → marks s ≡ busy (lectures_of (members i q) t) s) → filter_map (λ (l : Placed). compactness_finding q (not (is_beside i marks l.slot)) l) (course_row c t) ≡ alone_of i t q c
alone_is i t h q c marks are =
    filter_map_same (λ (l : Placed). compactness_finding q (not (is_beside i marks l.slot)) l) (λ l. compactness_finding q (is_alone i part l) l) (course_row c t)
    (Each-map (Fits i) (λ (l : Placed). compactness_finding q (not (is_beside i marks l.slot)) l ≡ compactness_finding q (is_alone i part l) l) (λ l fits. ap (λ b. compactness_finding q (not b) l) (beside l.slot fits.1)) (course_row c t) (row_fits i t c h))
  where
    part : List Placed
    part = lectures_of (members i q) t

    beside : (s : ℕ) → s < slot_count i → is_beside i marks s ≡ list_any (λ m. next_to i s m.slot) part
    beside s lt =
        ap₂ (λ a b. (ltb 0 (period_of i s) && a) || (ltb (period_of i s + 1) i.periods && b)) (are (s - 1)) (are (s + 1))
        ∙ sym (neighbour_is i part s (periods_above i s lt))
