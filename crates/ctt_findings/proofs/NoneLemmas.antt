-- If no conflict is counted, none is found.
use Rattle.std.proofs.Common.{◌≡◌, ℕ, zero, suc, ◌+◌, Bool, true, false, cond, ◌&&◌, nat_lt, List, [], ◌∷◌, ◌++◌, Option, None, refl, ◌∙◌, arith}
use Rattle.std.specs.List.{filter_map}
use Rattle.std.specs.Option.{option_to_list}
use Rattle.std.proofs.lemmas.List.Sums.{sum_by-append}
use Rattle.ctt_problem.specs.Problem.{Problem, clash, course_count}
use Rattle.ctt_problem.specs.Timetable.{IsTimetable, course_row}
use Rattle.ctt_problem.specs.declared.placed.Placed.{Placed}
use Rattle.ctt_rules.specs.Hard.{hard_counts}
use Rattle.ctt_rules.specs.Neighbours.{busy}
use Rattle.ctt_findings.specs.Findings.{cause, conflict_finding, conflict_findings, conflicts_between, conflicts_of, for_each, found}
use Rattle.ctt_findings.specs.Laws.{points_of}
use Rattle.ctt_findings.specs.declared.finding.Finding.{Finding}
use Rattle.ctt_findings.specs.declared.finding.Finding.TheVariants.{Conflict}
use Rattle.ctt_findings.proofs.PairLemmas.{conflicts_counted}
use Rattle.ctt_findings.proofs.PointLemmas.{found_worth, worth, worth_option}

-- if the findings are worth no points, there is none
abbrev AreNoneAtZero : List Finding → Type 0
AreNoneAtZero xs = worth xs ≡ 0 → xs ≡ []

none_joined : (xs ys : List Finding) → AreNoneAtZero xs → AreNoneAtZero ys → AreNoneAtZero (xs ++ ys)
none_joined xs ys f g e =
    let both : worth xs + worth ys ≡ 0 = omega (arith, sum_by-append points_of xs ys, e) in
    let first : xs ≡ [] = f (omega (arith, both)) in
    let second : ys ≡ [] = g (omega (arith, both)) in
    rw (first, second) refl

none_each : (f : ℕ → List Finding) (n : ℕ) → ((k : ℕ) → AreNoneAtZero (f k)) → AreNoneAtZero (for_each f n)
none_each f zero h e = refl
none_each f (suc n) h e = none_joined (for_each f n) (f n) (none_each f n h) (h n) e

none_where : (b : Bool) (xs : List Finding) → AreNoneAtZero xs → AreNoneAtZero (cond b xs [])
none_where true xs h e = h e
none_where false xs h e = refl

none_found : (b : Bool) (x : Finding) → points_of x ≡ 1 → worth (option_to_list (found b x)) ≡ 0 → found b x ≡ None
none_found true x one e = let worth_one : worth (option_to_list (found true x)) ≡ 1 = found_worth true x ∙ one in absurd (omega (arith, worth_one, e))
none_found false x one e = refl

none_mapped : {X : Type 0} (f : X → Option Finding) → ((x : X) → worth (option_to_list (f x)) ≡ 0 → f x ≡ None) → (xs : List X) → AreNoneAtZero (filter_map f xs)
none_mapped f h [] e = refl
none_mapped f h (x ∷ xs) e =
    let rest : List Finding = filter_map f xs in
    let both : worth (option_to_list (f x)) + worth rest ≡ 0 = omega (arith, worth_option (f x) rest, e) in
    let first : f x ≡ None = h x (omega (arith, both)) in
    let second : rest ≡ [] = none_mapped f h xs (omega (arith, both)) in
    rw (first, second) refl

pub no_conflicts : (i : Problem) (t : List Placed) → IsTimetable i t → (hard_counts i t).conflicts ≡ 0 → conflict_findings i t ≡ []
no_conflicts i t h none =
    none_each (conflicts_of i t) (course_count i) (λ c.
    none_each (λ d. cond (nat_lt c d && clash i c d) (conflicts_between i t c d) []) (course_count i) (λ d.
    none_where (nat_lt c d && clash i c d) (conflicts_between i t c d)
    (none_mapped (conflict_finding i c (busy (course_row c t))) (λ l. none_found (busy (course_row c t) l.slot) (Conflict c l.course l.slot (cause i c l.course)) refl) (course_row d t))))
    (conflicts_counted i t h ∙ none)
