-- Each finding of a timetable fits its instance.
use Rattle.std.proofs.Common.{◌≡◌, ℕ, zero, suc, ◌<◌, Bool, true, false, cond, not, ◌&&◌, ◌||◌, ◌==◌, nat_lt, List, [], ◌∷◌, ◌++◌, Option, Some, None, IfSome, refl, ◌∙◌, sym, arith, inl, inr}
use Rattle.std.specs.List.{cons_option, find, filter_map, list_any, AllByRecursion as Each}
use Rattle.std.specs.Option.{option_to_list, unwrap_or}
use Rattle.std.proofs.lemmas.Bool.{cases_Bool, and_parts}
use Rattle.ctt_problem.specs.Belonging.{curricula_of}
use Rattle.ctt_problem.specs.Lists.{has}
use Rattle.ctt_problem.specs.Problem.{Problem, IsProblem, IsCourseFacts, clash, course_count, course_of, curriculum_count, mates, members, teacher_count}
use Rattle.ctt_problem.specs.Timetable.{IsTimetable, Fits, course_row}
use Rattle.ctt_problem.specs.declared.placed.Placed.{Placed}
use Rattle.ctt_problem.proofs.NumberListLemmas.{below_fit}
use Rattle.ctt_problem.proofs.TimetableLemmas.{Each-append, Each-at}
use Rattle.ctt_rules.specs.Hard.{share_room}
use Rattle.ctt_rules.specs.Neighbours.{busy}
use Rattle.ctt_rules.specs.Penalty.{is_alone, lectures_of}
use Rattle.ctt_rules.proofs.TimetableLemmas.{row_fits}
use Rattle.ctt_findings.specs.Findings.{alone_of, availability_finding, barred_finding, blocked_finding, by_course, capacity_finding, cause, compactness_finding, compactness_findings, compactness_of, conflict_finding, conflict_findings, conflicts_between, conflicts_of, days_finding, findings, for_each, found, hard_findings, lectures_finding, occupancy_finding, occupancy_from, soft_findings, stability_finding, where_passes}
use Rattle.ctt_findings.specs.Fitting.{CauseFits, FindingFits}
use Rattle.ctt_findings.specs.declared.finding.Finding.{Finding}
use Rattle.ctt_findings.proofs.ConflictLemmas.{behind, mates_of, row_clashes}

module _ (P : Finding → Type 0) where
  found_fits : (b : Bool) (x : Finding) → (b ≡ true → P x) → IfSome (found b x) P
  found_fits true x h = h refl
  found_fits false x h = tt

  option_fits : (o : Option Finding) → IfSome o P → Each P (option_to_list o)
  option_fits None h = tt
  option_fits (Some x) h = (h, tt)

  one_more : (o : Option Finding) (ys : List Finding) → IfSome o P → Each P ys → Each P (cons_option o ys)
  one_more None ys h k = k
  one_more (Some x) ys h k = (h, k)

  -- the findings for each element
  mapped_fit : {X : Type 0} (Q : X → Type 0) (f : X → Option Finding) → ((x : X) → Q x → IfSome (f x) P) → (xs : List X) → Each Q xs → Each P (filter_map f xs)
  mapped_fit Q f h [] q = tt
  mapped_fit Q f h (x ∷ xs) q = one_more (f x) (filter_map f xs) (h x q.0) (mapped_fit Q f h xs q.1)

  -- the findings for each number
  numbered_fit : (f : ℕ → List Finding) (n : ℕ) → ((k : ℕ) → k < n → Each P (f k)) → Each P (for_each f n)
  numbered_fit f zero h = tt
  numbered_fit f (suc n) h = Each-append P (for_each f n) (f n) (numbered_fit f n (λ k lt. h k (omega (arith, lt)))) (h n (omega arith))

  passing_fit : (b : Bool) (xs : List Finding) → (b ≡ true → Each P xs) → Each P (cond b xs [])
  passing_fit true xs h = h refl
  passing_fit false xs h = tt

-- the first that passes is one of the list
first_within : (p : ℕ → Bool) (n : ℕ) (xs : List ℕ) → Each (λ q. q < n) xs → list_any p xs ≡ true → unwrap_or (find p xs) n < n
first_within p n [] h any = absurd (search arith)
first_within p n (x ∷ xs) h any = elim (cases_Bool (p x)) [
  | inl passes ↦ rw passes h.0
  | inr fails ↦ rw fails (first_within p n xs h.1 (rw fails at any))
]

module _ (i : Problem) (known : IsProblem i) where
  cause_fits : (c d : ℕ) → c < course_count i → clash i c d ≡ true → CauseFits i (cause i c d)
  cause_fits c d lt clashes = elim (cases_Bool ((course_of i c).teacher == (course_of i d).teacher)) [
    | inl same ↦ rw same (Each-at (IsCourseFacts (teacher_count i)) i.courses known.courses c (record { teacher = 0; lectures = 0; min_days = 0; students = 0 }) lt).0
    | inr other ↦ (
        let both : mates i c d ≡ true = rw other at (and_parts (not (c == d)) ((course_of i c).teacher == (course_of i d).teacher || mates i c d) clashes).1 in
        rw other (first_within (λ q. has d (members i q)) (curriculum_count i) (curricula_of i c) (below_fit (λ q. has c (members i q)) (curriculum_count i)) (sym (mates_of i c d) ∙ both)))
  ]

  module _ (t : List Placed) (h : IsTimetable i t) where
    of_courses : (f : ℕ → List Placed → Option Finding) → ((c : ℕ) (row : List Placed) → c < course_count i → IfSome (f c row) (FindingFits i)) → Each (FindingFits i) (by_course i t f)
    of_courses f k = numbered_fit (FindingFits i) (λ c. option_to_list (f c (course_row c t))) (course_count i) (λ c lt. option_fits (FindingFits i) (f c (course_row c t)) (k c (course_row c t) lt))

    of_lectures : (f : Placed → Option Finding) → ((l : Placed) → Fits i l → IfSome (f l) (FindingFits i)) → Each (FindingFits i) (filter_map f t)
    of_lectures f k = mapped_fit (FindingFits i) (Fits i) f k t h.fits

    both_hold : (c : ℕ) (ls : List Placed) → Each (Fits i) ls → Each (λ (l : Placed). clash i c l.course ≡ true) ls → Each (λ (l : Placed). Fits i l × (clash i c l.course ≡ true)) ls
    both_hold c [] a b = tt
    both_hold c (l ∷ ls) a b = ((a.0, b.0), both_hold c ls a.1 b.1)

    conflicts_fit : Each (FindingFits i) (conflict_findings i t)
    conflicts_fit =
        numbered_fit (FindingFits i) (conflicts_of i t) (course_count i) (λ c lt.
        numbered_fit (FindingFits i) (where_passes (behind i c) (conflicts_between i t c)) (course_count i) (λ d _.
        passing_fit (FindingFits i) (behind i c d) (conflicts_between i t c d) (λ passes.
        mapped_fit (FindingFits i) (λ (l : Placed). Fits i l × (clash i c l.course ≡ true)) (conflict_finding i c (busy (course_row c t)))
        (λ l q. found_fits (FindingFits i) (busy (course_row c t) l.slot) _ (λ _. (lt, q.0.0, q.0.1, cause_fits c l.course lt q.1)))
        (course_row d t) (both_hold c (course_row d t) (row_fits i t d h) (row_clashes i c t d passes)))))

    occupancy_fit : (before xs : List Placed) → Each (Fits i) xs → Each (FindingFits i) (occupancy_from before xs)
    occupancy_fit before [] fits = tt
    occupancy_fit before (x ∷ xs) fits =
        Each-append (FindingFits i) (option_to_list (occupancy_finding (list_any (share_room x) before) x)) (occupancy_from (before ++ x ∷ []) xs)
        (option_fits (FindingFits i) (occupancy_finding (list_any (share_room x) before) x) (found_fits (FindingFits i) (list_any (share_room x) before) _ (λ _. fits.0))) (occupancy_fit (before ++ x ∷ []) xs fits.1)

    compactness_fit : Each (FindingFits i) (compactness_findings i t)
    compactness_fit =
        numbered_fit (FindingFits i) (compactness_of i t) (curriculum_count i) (λ q lt.
        numbered_fit (FindingFits i) (where_passes (λ c. has c (members i q)) (alone_of i t q)) (course_count i) (λ c _.
        passing_fit (FindingFits i) (has c (members i q)) (alone_of i t q c) (λ _.
        mapped_fit (FindingFits i) (Fits i) (λ l. compactness_finding q (is_alone i (lectures_of (members i q) t) l) l)
        (λ l fits. found_fits (FindingFits i) (is_alone i (lectures_of (members i q) t) l) _ (λ _. (lt, fits))) (course_row c t) (row_fits i t c h))))

    hard_fit : Each (FindingFits i) (hard_findings i t)
    hard_fit =
        Each-append (FindingFits i) (by_course i t (lectures_finding i)) _ (of_courses (lectures_finding i) (λ c row lt. found_fits (FindingFits i) _ _ (λ _. lt)))
        (Each-append (FindingFits i) (conflict_findings i t) _ conflicts_fit
        (Each-append (FindingFits i) (filter_map (availability_finding i) t) _ (of_lectures (availability_finding i) (λ l fits. found_fits (FindingFits i) _ _ (λ _. fits)))
        (Each-append (FindingFits i) (occupancy_from [] t) _ (occupancy_fit [] t h.fits)
        (Each-append (FindingFits i) (filter_map (barred_finding i) t) (filter_map (blocked_finding i) t) (of_lectures (barred_finding i) (λ l fits. found_fits (FindingFits i) _ _ (λ _. fits)))
        (of_lectures (blocked_finding i) (λ l fits. found_fits (FindingFits i) _ _ (λ _. fits)))))))

    soft_fit : Each (FindingFits i) (soft_findings i t)
    soft_fit =
        Each-append (FindingFits i) (filter_map (capacity_finding i) t) _ (of_lectures (capacity_finding i) (λ l fits. found_fits (FindingFits i) _ _ (λ _. fits)))
        (Each-append (FindingFits i) (by_course i t (days_finding i)) _ (of_courses (days_finding i) (λ c row lt. found_fits (FindingFits i) _ _ (λ _. lt)))
        (Each-append (FindingFits i) (compactness_findings i t) (by_course i t (stability_finding i)) compactness_fit
        (of_courses (stability_finding i) (λ c row lt. found_fits (FindingFits i) _ _ (λ _. lt)))))

    pub findings_fit : Each (FindingFits i) (findings i t)
    unfolding findings
    findings_fit = Each-append (FindingFits i) (hard_findings i t) (soft_findings i t) hard_fit soft_fit
