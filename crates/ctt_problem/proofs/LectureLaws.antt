-- Lists of lectures: inserting a lecture, and the ascending list of given lectures.
use Rattle.std.proofs.Common.{◌≡◌, ◌⊎◌, inl, inr, ℕ, List, [], ◌∷◌, Bool, true, false, not, ◌&&◌, ◌||◌, ◌==◌, refl, sym, ap, subst, ◌∙◌, arith, true≢false, ⊎_elim}
use Rattle.std.specs.List.{list_any, AllByRecursion as Each}
use Rattle.std.proofs.lemmas.Bool.{and_parts, or_cases, or_left, or_right, or_parts, eqb-true, eq-eqb}
use Rattle.std.proofs.lemmas.Bool.Decides.{nat_tests}
use Rattle.ctt_problem.specs.declared.placed.Placed.{Placed}
use Rattle.ctt_problem.specs.Lists.{put}
use Rattle.ctt_problem.specs.Timetable.{before, Ascending, has_lecture, with, SameLectures}
use Rattle.ctt_problem.proofs.TableLemmas.{bool_case}
use Rattle.ctt_problem.proofs.TimetableLemmas.{before_trans, Each-map}

-- membership in a list with one more element
pub put_any : {X : Type 0} (lt : X → X → Bool) (p : X → Bool) (x : X) (ys : List X) → list_any p (put lt x ys) ≡ (p x || list_any p ys)
put_any lt p x [] = refl
put_any lt p x (y ∷ ys) = bool_case _ (lt x y) (λ is. rw is refl) (λ isnt. rw isnt (ap (λ b. p y || b) (put_any lt p x ys) ∙ turn (p y) (p x) (list_any p ys)))
  where
    turn : (a b c : Bool) → (a || (b || c)) ≡ (b || (a || c))
    turn true true c = refl
    turn true false c = refl
    turn false b c = refl

-- what holds of each element and of the new one
pub Each-put : {X : Type 0} (P : X → Type 0) (lt : X → X → Bool) (x : X) (ys : List X) → P x → Each P ys → Each P (put lt x ys)
Each-put P lt x [] h each = (h, tt)
Each-put P lt x (y ∷ ys) h each = bool_case _ (lt x y) (λ is. rw is (h, each)) (λ isnt. rw isnt (each.0, Each-put P lt x ys h each.1))

-- the order of lectures
pub before_apart : (a b : Placed) → before a b ≡ true → (b.course == a.course && b.slot == a.slot) ≡ false
before_apart a b h = grind (arith, nat_tests)

pub before_apart_turned : (a b : Placed) → before a b ≡ true → (a.course == b.course && a.slot == b.slot) ≡ false
before_apart_turned a b h = grind (arith, nat_tests)

before_either : (a b : Placed) → before a b ≡ false → (b.course == a.course && b.slot == a.slot) ≡ false → before b a ≡ true
before_either a b h k = grind (arith, nat_tests)

pub before_once : (a b : Placed) → before a b ≡ true → before b a ≡ false
before_once a b h = grind (arith, nat_tests)

-- inserting a lecture keeps a list ascending, if its course has none in its slot
pub with_ascends : (t : List Placed) (l : Placed) → Ascending t → has_lecture l.course l.slot t ≡ false → Ascending (with l t)
with_ascends [] l up new = (tt, tt)
with_ascends (m ∷ t) l up new =
    let apart = or_parts (m.course == l.course && m.slot == l.slot) (has_lecture l.course l.slot t) new in
    bool_case _ (before l m)
    (λ is. rw is ((is, Each-map (λ x. before m x ≡ true) (λ x. before l x ≡ true) (λ x h. before_trans l m x is h) t up.0), up))
    (λ isnt. rw isnt (Each-put (λ x. before m x ≡ true) before l t (before_either l m isnt apart.0) up.0, with_ascends t l up.1 apart.1))

-- a test for one lecture
exactly : Placed → Placed → Bool
exactly a b = (b.course == a.course && b.slot == a.slot) && a.room == b.room

pub placed_same : (c d s t r q : ℕ) → c ≡ d → s ≡ t → r ≡ q → ◌≡◌ {A = Placed} (record { course = c; slot = s; room = r }) (record { course = d; slot = t; room = q })
placed_same c d s t r q e f g = rw (e, f, g) refl

exactly_is : (a b : Placed) → exactly a b ≡ true → a ≡ b
unfolding exactly
exactly_is a b h =
    let pair = and_parts (b.course == a.course && b.slot == a.slot) (a.room == b.room) h in
    let numbers = and_parts (b.course == a.course) (b.slot == a.slot) pair.0 in
    placed_same a.course b.course a.slot b.slot a.room b.room (sym (eqb-true b.course a.course numbers.0)) (sym (eqb-true b.slot a.slot numbers.1)) (eqb-true a.room b.room pair.1)

exactly_self : (a : Placed) → exactly a a ≡ true
unfolding exactly
exactly_self a = rw (eq-eqb a.course a.course refl, eq-eqb a.slot a.slot refl, eq-eqb a.room a.room refl) refl

exactly_after : (a b : Placed) → before a b ≡ true → exactly a b ≡ false
unfolding exactly
exactly_after a b h = rw (before_apart a b h) refl

-- an element that is found, with what holds of each element
find_each : (C : Type 0) (P : Placed → Type 0) (p : Placed → Bool) (ls : List Placed) → Each P ls → list_any p ls ≡ true → ((l : Placed) → P l → p l ≡ true → C) → C
find_each C P p [] each h then = absurd (true≢false (sym h))
find_each C P p (l ∷ ls) each h then = ⊎_elim (λ is. then l each.0 is) (λ more. find_each C P p ls each.1 more then) (or_cases (p l) (list_any p ls) h)

-- a lecture that is in a list is its head or is in its tail
head_or_after : (a b : Placed) (u : List Placed) → Ascending (b ∷ u) → list_any (exactly a) (b ∷ u) ≡ true → (a ≡ b) ⊎ (before b a ≡ true)
head_or_after a b u up found = by (or_cases (exactly a b) (list_any (exactly a) u) found)
  where
    by : (exactly a b ≡ true) ⊎ (list_any (exactly a) u ≡ true) → (a ≡ b) ⊎ (before b a ≡ true)
    by (inl is) = inl (exactly_is a b is)
    by (inr more) = find_each ((a ≡ b) ⊎ (before b a ≡ true)) (λ x. before b x ≡ true) (exactly a) u up.0 more (λ x after is. inr (ap (λ q. before b q) (exactly_is a x is) ∙ after))

-- ascending lists of the same lectures have the same head
same_heads : (a b : Placed) (t u : List Placed) → Ascending (a ∷ t) → Ascending (b ∷ u) → SameLectures (a ∷ t) (b ∷ u) → a ≡ b
same_heads a b t u up up' same =
    by (head_or_after a b u up' (sym (same (exactly a)) ∙ ap (λ x. x || list_any (exactly a) t) (exactly_self a))) (head_or_after b a t up (same (exactly b) ∙ ap (λ x. x || list_any (exactly b) u) (exactly_self b)))
  where
    by : (a ≡ b) ⊎ (before b a ≡ true) → (b ≡ a) ⊎ (before a b ≡ true) → a ≡ b
    by (inl e) other = e
    by (inr b_first) (inl e) = sym e
    by (inr b_first) (inr a_first) = absurd (true≢false (sym b_first ∙ before_once a b a_first))

-- the tails have the same lectures too
others_same : (a : Placed) (p : Placed → Bool) (ls : List Placed) → Each (λ m. before a m ≡ true) ls → list_any (λ x. p x && not (exactly a x)) ls ≡ list_any p ls
others_same a p [] each = refl
others_same a p (l ∷ ls) each = rw (exactly_after a l each.0, others_same a p ls each.1) (stays (p l) (list_any p ls))
  where
    stays : (b c : Bool) → ((b && true) || c) ≡ (b || c)
    stays true c = refl
    stays false c = refl

same_tails : (a : Placed) (t u : List Placed) → Each (λ m. before a m ≡ true) t → Each (λ m. before a m ≡ true) u → SameLectures (a ∷ t) (a ∷ u) → SameLectures t u
same_tails a t u each each' same p =
    let q : Placed → Bool = λ x. p x && not (exactly a x) in
    let not_head : (ls : List Placed) → (q a || list_any q ls) ≡ list_any q ls = λ ls. ap (λ b. (p a && not b) || list_any q ls) (exactly_self a) ∙ drops (p a) (list_any q ls) in
    sym (others_same a p t each) ∙ sym (not_head t) ∙ same q ∙ not_head u ∙ others_same a p u each'
  where
    drops : (b c : Bool) → ((b && false) || c) ≡ c
    drops true c = refl
    drops false c = refl

-- ascending lists of the same lectures are equal
pub one_list : (t u : List Placed) → Ascending t → Ascending u → SameLectures t u → t ≡ u
one_list [] [] up up' same = refl
one_list [] (b ∷ u) up up' same = absurd (true≢false (sym (same (λ _. true))))
one_list (a ∷ t) [] up up' same = absurd (true≢false (same (λ _. true)))
one_list (a ∷ t) (b ∷ u) up up' same =
    let head : a ≡ b = same_heads a b t u up up' same in
    let up_a : Ascending (a ∷ u) = subst (λ x. Ascending (x ∷ u)) (sym head) up' in
    let same_a : SameLectures (a ∷ t) (a ∷ u) = subst (λ x. SameLectures (a ∷ t) (x ∷ u)) (sym head) same in
    let tail : t ≡ u = one_list t u up.1 up'.1 (same_tails a t u up.0 up_a.0 same_a) in
    ap (λ x. x ∷ t) head ∙ ap (λ x. b ∷ x) tail

-- what holds of each element of a list holds of each lecture that is found in it
pub Each-found : (P : Placed → Type 0) (ls : List Placed) → Each P ls → (t : List Placed) → ((p : Placed → Bool) → list_any p t ≡ true → list_any p ls ≡ true) → Each P t
Each-found P ls each [] found = tt
Each-found P ls each (a ∷ t) found = (
  find_each (P a) P (exactly a) ls each (found (exactly a) (or_left (exactly a a) (list_any (exactly a) t) (exactly_self a))) (λ x h is. subst P (sym (exactly_is a x is)) h),
  Each-found P ls each t (λ p h. found p (or_right (p a) (list_any p t) h)),
)
