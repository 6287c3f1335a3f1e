-- The conflicts of one course.
use Rattle.std.proofs.Common.{◌≡◌, ℕ, zero, suc, ◌+◌, ◌<◌, ◌≤◌, Bool, true, false, cond, ◌&&◌, ◌||◌, ◌==◌, nat_lt, List, [], ◌∷◌, take, drop, length, get_or, add-one, Some, None, refl, ◌∙◌, sym, ap, ap₂, arith, inl, inr}
use Rattle.std.specs.List.{find, filter_map, list_any, AllByRecursion as Each}
use Rattle.std.specs.Option.{unwrap_or}
use Rattle.std.proofs.lemmas.Bool.{cases_Bool, eqb-true, lt-ltb, le-ltb, and_parts}
use Rattle.std.proofs.lemmas.List.{take_all, drop_more, drop_all}
use Rattle.std.proofs.lemmas.List.Folds.{list_any_more, list_any-append}
use Rattle.ctt_problem.specs.Lists.{below, has}
use Rattle.ctt_problem.specs.Belonging.{curricula_of}
use Rattle.ctt_problem.specs.Problem.{Problem, course_count, curriculum_count, members, mates, clash}
use Rattle.ctt_problem.specs.Timetable.{course_row}
use Rattle.ctt_problem.specs.declared.placed.Placed.{Placed}
use Rattle.ctt_problem.proofs.TimetableLemmas.{Each-map}
use Rattle.ctt_rules.specs.Neighbours.{busy}
use Rattle.ctt_rules.proofs.ListLemmas.{Each-every, Each-filter_passes}
use Rattle.ctt_findings.specs.Findings.{conflict_finding, conflicts_between, for_each, where_passes, found, cause}
use Rattle.ctt_findings.specs.declared.finding.Finding.TheVariants.{Conflict}
use Rattle.ctt_findings.proofs.GrowLemmas.{filter_map_same, for_each_skip}

module _ (i : Problem) (c : ℕ) where
  abbrev pub behind : ℕ → Bool
  behind d = nat_lt c d && clash i c d

  -- after the course, those that clash are those that are marked
  pub passes_same : (marks : ℕ → Bool) → ((d : ℕ) → marks d ≡ (nat_lt d (course_count i) && clash i c d)) → (from : ℕ) → c < from → (d : ℕ) → from ≤ d → d < course_count i → marks d ≡ behind d
  passes_same marks are from lt d le within =
      are d ∙ ap (λ b. b && clash i c d) (lt-ltb d (course_count i) within ∙ sym (lt-ltb c d (omega (arith, lt, le))))

  -- nothing is reported up to the course itself
  pub none_before : (t : List Placed) (n : ℕ) → n ≤ c + 1 → for_each (where_passes behind (conflicts_between i t c)) n ≡ []
  none_before t n le =
      for_each_skip (where_passes behind (conflicts_between i t c)) 0 n (omega arith)
      (λ k from lt. ap (λ b. cond (b && clash i c k) (conflicts_between i t c k) []) (le-ltb c k (omega (arith, lt, le))))

  -- the findings for another course, by the marks on the slots
  pub between_is : (t : List Placed) (d : ℕ) (marks : ℕ → Bool) → ((s : ℕ) → marks s ≡ busy (course_row c t) s) → filter_map (conflict_finding i c marks) (course_row d t) ≡ conflicts_between i t c d
  between_is t d marks are =
      filter_map_same (conflict_finding i c marks) (conflict_finding i c (busy (course_row c t))) (course_row d t)
      (Each-every (λ l. conflict_finding i c marks l ≡ conflict_finding i c (busy (course_row c t)) l) (λ l. ap (λ b. found b (Conflict c l.course l.slot (cause i c l.course))) (are l.slot)) (course_row d t))

  pub row_clashes : (t : List Placed) (d : ℕ) → behind d ≡ true → Each (λ (l : Placed). clash i c l.course ≡ true) (course_row d t)
  row_clashes t d passes =
      Each-map (λ (l : Placed). (l.course == d) ≡ true) (λ (l : Placed). clash i c l.course ≡ true)
      (λ l same. ap (clash i c) (eqb-true l.course d same) ∙ (and_parts (nat_lt c d) (clash i c d) passes).1) (course_row d t) (Each-filter_passes (λ (l : Placed). l.course == d) t)

-- some element passes both tests exactly if one of those that pass the first passes the second
any_of : {X : Type 0} (p q : X → Bool) (d : X) (xs : List X) (n : ℕ) → n ≤ length xs → list_any (λ x. p x && q x) (take n xs) ≡ list_any (λ k. q (get_or xs k d)) (below (λ k. p (get_or xs k d)) n)
any_of p q d xs zero h = refl
any_of p q d xs (suc n) h =
    let more : list_any (λ x. p x && q x) (take (suc n) xs) ≡ (list_any (λ x. p x && q x) (take n xs) || (p (get_or xs n d) && q (get_or xs n d))) = rw add-one at (list_any_more (λ x. p x && q x) xs n d (omega (arith, h))) in
    more
    ∙ ap₂ (λ a b. a || b) (any_of p q d xs n (omega (arith, h))) (last (p (get_or xs n d)))
    ∙ sym (list_any-append (λ k. q (get_or xs k d)) (below (λ k. p (get_or xs k d)) n) (cond (p (get_or xs n d)) (n ∷ []) []))
  where
    last : (b : Bool) → (b && q (get_or xs n d)) ≡ list_any (λ k. q (get_or xs k d)) (cond b (n ∷ []) [])
    last true = or_nothing (q (get_or xs n d))
      where
        or_nothing : (b : Bool) → b ≡ (b || false)
        or_nothing true = refl
        or_nothing false = refl
    last false = refl

pub mates_of : (i : Problem) (c d : ℕ) → mates i c d ≡ list_any (λ q. has d (members i q)) (curricula_of i c)
mates_of i c d =
    ap (list_any (λ q. has c q && has d q)) (sym (take_all (curriculum_count i) i.curricula (omega arith)))
    ∙ any_of (λ q. has c q) (λ q. has d q) [] i.curricula (curriculum_count i) (omega arith)

-- the first element that passes, if those before it do not
module _ (p : ℕ → Bool) (xs : List ℕ) (k : ℕ) (so_far : find p (drop k xs) ≡ find p xs) where
  module _ (x : ℕ) (within : k < length xs) (at : x ≡ get_or xs k x) where
    begins : find p xs ≡ cond (p x) (Some x) (find p (drop (k + 1) xs))
    begins = sym so_far ∙ ap (find p) (drop_more xs k x within) ∙ ap (λ y. cond (p y) (Some y) (find p (drop (k + 1) xs))) (sym at)

    pub found_here : (n : ℕ) → p x ≡ true → x ≡ unwrap_or (find p xs) n
    found_here n passes = sym (ap (λ o. unwrap_or o n) (begins ∙ ap (λ b. cond b (Some x) (find p (drop (k + 1) xs))) passes))

    pub goes_on : p x ≡ false → find p (drop (k + 1) xs) ≡ find p xs
    goes_on fails = sym (begins ∙ ap (λ b. cond b (Some x) (find p (drop (k + 1) xs))) fails)

  pub not_found : length xs ≤ k → find p xs ≡ None
  not_found past = sym so_far ∙ ap (find p) (drop_all k xs past)
