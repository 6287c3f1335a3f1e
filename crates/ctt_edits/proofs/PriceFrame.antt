-- The price of an edit depends on the rows that it reads: those of its courses, and those of their
-- curriculum mates.
use Rattle.std.proofs.Common.{◌≡◌, ℕ, ◌+◌, ◌<◌, Bool, true, false, cond, ◌&&◌, ◌||◌, ◌==◌, List, [], ◌∷◌, Option, Some, None, pos, ◌-ℤ◌, refl, ◌∙◌, ap, ap₂, arith, inl, inr}
use Rattle.std.specs.List.{sum_by, list_any, AllByRecursion as Each}
use Rattle.std.proofs.lemmas.Bool.{eq-eqb, eqb-true, or_cases, or_left, or_right}
use Rattle.std.proofs.lemmas.Int.{ints}
use Rattle.std.proofs.lemmas.List.Sums.{sum_by-cons}
use Rattle.ctt_problem.specs.Lists.{has}
use Rattle.ctt_problem.specs.Problem.{Problem, course_count, mates}
use Rattle.ctt_problem.specs.Timetable.{before, Ascending, IsTimetable, course_row}
use Rattle.ctt_problem.specs.declared.placed.Placed.{Placed}
use Rattle.ctt_problem.proofs.LectureLaws.{Each-put}
use Rattle.ctt_problem.proofs.TimetableLemmas.{Each-map}
use Rattle.ctt_rules.specs.Penalty.{penalty, total, row_cost, course_cost, alone_cost, lectures_of}
use Rattle.ctt_rules.proofs.ListLemmas.{Each-filter}
use Rattle.ctt_rules.proofs.SumLemmas.{sum_below_same}
use Rattle.ctt_rules.proofs.TimetableLemmas.{courses_fit}
use Rattle.ctt_board.specs.Boards.{delta}
use Rattle.ctt_board.specs.Changes.{apply_at, apply}
use Rattle.ctt_board.specs.Costs.{touches, touches_curriculum, courses_cost, curricula_cost}
use Rattle.ctt_board.specs.declared.cell.Cell.{Cell}
use Rattle.ctt_board.proofs.ApplyLemmas.{agree_apply}
use Rattle.ctt_board.proofs.CostLemmas.{difference_of}
use Rattle.ctt_board.proofs.OrderLemmas.{InOrder, in_order}
use Rattle.ctt_edits.specs.Calls.{edit_courses}
use Rattle.ctt_edits.specs.Edits.{EditFits, change}
use Rattle.ctt_edits.specs.Looks.{price}
use Rattle.ctt_edits.specs.declared.edit.Edit.{Edit}
use Rattle.ctt_edits.specs.declared.edit.Edit.TheVariants.{Place, Move, Swap, Reroom, Drop}
use Rattle.ctt_edits.proofs.FrameLemmas.{AgreeAt, change_same}
use Rattle.ctt_edits.proofs.ReadLemmas.{same_part}

-- sums of which the terms that pass are the same
one_term : (b : Bool) (m n : ℕ) → (b ≡ true → m ≡ n) → cond b m 0 ≡ cond b n 0
one_term true m n e = e refl
one_term false m n e = refl

sum_by_passing : {X : Type 0} (p : X → Bool) (f g : X → ℕ) (xs : List X) → Each (λ x. p x ≡ true → f x ≡ g x) xs → sum_by (λ x. cond (p x) (f x) 0) xs ≡ sum_by (λ x. cond (p x) (g x) 0) xs
sum_by_passing p f g [] e = refl
sum_by_passing p f g (x ∷ xs) e = omega (arith, sum_by_passing p f g xs e.1, one_term (p x) (f x) (g x) e.0, sum_by-cons (λ y. cond (p y) (f y) 0) x xs, sum_by-cons (λ y. cond (p y) (g y) 0) x xs)

-- two timetables are the same in the rows of the courses and in the parts of the curricula that
-- cells touch
pub record AgreeTouched (i : Problem) (cells : List Cell) (t u : List Placed) : Type 0 where
  pub rows : (c : ℕ) → touches cells c ≡ true → course_row c t ≡ course_row c u
  pub parts : Each (λ q. touches_curriculum cells q ≡ true → lectures_of q t ≡ lectures_of q u) i.curricula

touched_same : (i : Problem) (cells : List Cell) (t u : List Placed) → AgreeTouched i cells t u → courses_cost i cells t + curricula_cost i cells t ≡ courses_cost i cells u + curricula_cost i cells u
touched_same i cells t u a =
    let courses : courses_cost i cells t ≡ courses_cost i cells u =
    sum_below_same (λ c. cond (touches cells c) (total (course_cost i t c)) 0) (λ c. cond (touches cells c) (total (course_cost i u c)) 0) (course_count i)
    (λ c. one_term (touches cells c) (total (course_cost i t c)) (total (course_cost i u c)) (λ y. ap (λ ls. total (row_cost i c ls)) (a.rows c y))) in
    let curricula : curricula_cost i cells t ≡ curricula_cost i cells u =
    sum_by_passing (touches_curriculum cells) (λ q. alone_cost i (lectures_of q t)) (λ q. alone_cost i (lectures_of q u)) i.curricula
    (Each-map (λ q. touches_curriculum cells q ≡ true → lectures_of q t ≡ lectures_of q u) (λ q. touches_curriculum cells q ≡ true → alone_cost i (lectures_of q t) ≡ alone_cost i (lectures_of q u)) (λ q e y. ap (alone_cost i) (e y)) i.curricula a.parts) in
    ap₂ (λ m n. m + n) courses curricula

-- they still are once the cells are applied
still_touched : (i : Problem) (cells : List Cell) (t u : List Placed) → InOrder t → InOrder u → AgreeTouched i cells t u → AgreeTouched i cells (apply cells t) (apply cells u)
still_touched i cells t u h k a = record {
  rows = λ c y. agree_apply (λ l. l.course == c) cells t u h k (a.rows c y);
  parts = Each-map (λ q. touches_curriculum cells q ≡ true → lectures_of q t ≡ lectures_of q u) (λ q. touches_curriculum cells q ≡ true → lectures_of q (apply cells t) ≡ lectures_of q (apply cells u)) (λ q e y. agree_apply (λ l. has l.course q) cells t u h k (e y)) i.curricula a.parts;
}

-- courses of the instance stay such
courses_at : (n c s : ℕ) (r : Option ℕ) (t : List Placed) → c < n → Each (λ (l : Placed). l.course < n) t → Each (λ (l : Placed). l.course < n) (apply_at c s r t)
courses_at n c s None t lt h = Each-filter (λ (l : Placed). l.course < n) _ t h
courses_at n c s (Some r) t lt h = Each-put (λ (l : Placed). l.course < n) before (record { course = c; slot = s; room = r }) t lt h

courses_apply : (n : ℕ) (cells : List Cell) (t : List Placed) → Each (λ (x : Cell). x.course < n) cells → Each (λ (l : Placed). l.course < n) t → Each (λ (l : Placed). l.course < n) (apply cells t)
courses_apply n [] t f h = h
courses_apply n (x ∷ xs) t f h = courses_apply n xs (apply_at x.course x.slot x.room t) f.1 (courses_at n x.course x.slot x.room t f.0 h)

integer_cross : (a b c d : ℕ) → a + d ≡ c + b → pos a -ℤ pos b ≡ pos c -ℤ pos d
integer_cross a b c d h = omega (arith, ints)

-- cells make the same difference to timetables that are the same in what they touch
pub delta_same : (i : Problem) (cells : List Cell) (t u : List Placed) → IsTimetable i t → IsTimetable i u → Each (λ (x : Cell). x.course < course_count i) cells → AgreeTouched i cells t u → delta i t cells ≡ delta i u cells
delta_same i cells t u h k f a =
    let before_same = touched_same i cells t u a in
    let after_same = touched_same i cells (apply cells t) (apply cells u) (still_touched i cells t u (in_order t h.ascending) (in_order u k.ascending) a) in
    let one = difference_of i cells t (courses_fit i t h) (courses_apply (course_count i) cells t f (courses_fit i t h)) in
    let other = difference_of i cells u (courses_fit i u k) (courses_apply (course_count i) cells u f (courses_fit i u k)) in
    integer_cross (total (penalty i (apply cells t))) (total (penalty i t)) (total (penalty i (apply cells u))) (total (penalty i u)) (omega (arith, before_same, after_same, one, other))

-- the courses that the change of an edit touches are its own
twice : (b : Bool) → (b || (b || false)) ≡ true → (b || false) ≡ true
twice true h = refl
twice false h = h

touched_own : (e : Edit) (t : List Placed) (c : ℕ) → touches (change t e) c ≡ true → has c (edit_courses e) ≡ true
touched_own (Place a s r) t c y = y
touched_own (Move a s s2 r) t c y = twice (a == c) y
touched_own (Swap a s b s2) t c y = both (a == c) (b == c) y
  where
    both : (p q : Bool) → (p || (q || (p || (q || false)))) ≡ true → (p || (q || false)) ≡ true
    both true q h = refl
    both false true h = refl
    both false false h = h
touched_own (Reroom a s r) t c y = twice (a == c) y
touched_own (Drop a s) t c y = y

change_fits : (i : Problem) (e : Edit) (t : List Placed) → EditFits i e → Each (λ (x : Cell). x.course < course_count i) (change t e)
change_fits i (Place c s r) t f = (f.0, tt)
change_fits i (Move c s s2 r) t f = (f.0, (f.0, tt))
change_fits i (Swap c s d s2) t f = (f.0, (f.2, (f.0, (f.2, tt))))
change_fits i (Reroom c s r) t f = (f.0, (f.0, tt))
change_fits i (Drop c s) t f = (f.0, tt)

-- a curriculum that is touched has a member that is touched
touched_member : (C : Type 0) (cells : List Cell) (q : List ℕ) → touches_curriculum cells q ≡ true → ((c : ℕ) → touches cells c ≡ true → has c q ≡ true → C) → C
touched_member C [] q y then = cc
touched_member C (x ∷ xs) q y then = elim (or_cases (has x.course q) (touches_curriculum xs q) y) [
  | inl here ↦ then x.course (or_left (x.course == x.course) (touches xs x.course) (eq-eqb x.course x.course refl)) here
  | inr more ↦ touched_member C xs q more (λ c touched member. then c (or_right (x.course == c) (touches xs c) touched) member)
]

any_has : (p : ℕ → Bool) (c : ℕ) (cs : List ℕ) → has c cs ≡ true → p c ≡ true → list_any p cs ≡ true
any_has p c [] h y = cc
any_has p c (d ∷ ds) h y = elim (or_cases (d == c) (has c ds) h) [
  | inl same ↦ or_left (p d) (list_any p ds) (ap p (eqb-true d c same) ∙ y)
  | inr more ↦ or_right (p d) (list_any p ds) (any_has p c ds more y)
]

-- with the rows of all mates of touched courses, the parts of the curricula that are touched are
-- the same
mates_same : (cells : List Cell) (t u : List Placed) (qs : List (List ℕ)) → Ascending t → Ascending u → ((c d : ℕ) → touches cells c ≡ true → list_any (λ q. has c q && has d q) qs ≡ true → course_row d t ≡ course_row d u) → Each (λ q. touches_curriculum cells q ≡ true → lectures_of q t ≡ lectures_of q u) qs
mates_same cells t u [] h k rows = tt
mates_same cells t u (q ∷ qs) h k rows = (
  (λ y. same_part (λ d. has d q) t u h k (λ d member. touched_member (course_row d t ≡ course_row d u) cells q y (λ c touched own. rows c d touched (or_left (has c q && has d q) (list_any (λ q. has c q && has d q) qs) (rw (own, member) refl))))),
  mates_same cells t u qs h k (λ c d touched m. rows c d touched (or_right (has c q && has d q) (list_any (λ q. has c q && has d q) qs) m)),
)

pub price_same : (i : Problem) (e : Edit) (t u : List Placed) → IsTimetable i t → IsTimetable i u → EditFits i e → AgreeAt e t u → ((d : ℕ) → list_any (λ c. mates i c d) (edit_courses e) ≡ true → course_row d t ≡ course_row d u) → price i t e ≡ price i u e
price_same i e t u h k f a mates_agree =
    let agree : AgreeTouched i (change t e) t u = record {
      rows = λ c y. a.courses c (touched_own e t c y);
      parts = mates_same (change t e) t u i.curricula h.ascending k.ascending (λ c d y m. mates_agree d (any_has (λ c. mates i c d) c (edit_courses e) (touched_own e t c y) m));
    } in
    delta_same i (change t e) t u h k (change_fits i e t f) agree ∙ ap (delta i u) (change_same e t u a)
