-- The edits of a pattern one by one, and the cheapest of those so far.
use Rattle.std.proofs.Common.{◌≡◌, ℕ, zero, suc, ◌+◌, ◌-◌, ◌<◌, ◌≤◌, Bool, List, [], ◌∷◌, ◌++◌, map, take, is_none, Option, Some, None, refl, ◌∙◌, sym, ap, ap₂, subst, arith, inl, inr}
use Rattle.std.specs.List.{flat_map, insert, position_or_len, range_with_len, AllByRecursion as Each}
use Rattle.std.proofs.lemmas.Bool.{cases_Bool}
use Rattle.std.proofs.Math.Seq.{take-nil}
use Rattle.std.proofs.lemmas.List.{append-nil}
use Rattle.ctt_problem.specs.Lists.{put}
use Rattle.ctt_problem.specs.Problem.{Problem, course_count, slot_count, room_count}
use Rattle.ctt_problem.specs.declared.placed.Placed.{Placed}
use Rattle.ctt_problem.proofs.ListLaws.{Each-mapped}
use Rattle.ctt_problem.proofs.TimetableLemmas.{Each-map, Each-append}
use Rattle.ctt_board.proofs.PutLemmas.{put_is}
use Rattle.ctt_edits.specs.Candidates.{from_to, first_choices, second_choices, edit_by, edits_with, edits_by, n_cheapest}
use Rattle.ctt_edits.specs.Edits.{EditFits, edit_fault}
use Rattle.ctt_edits.specs.Patterns.{FitsIfGiven, IsRoomIfGiven, PatternFits, given_or_all, edits_of, with_price, feasible, is_cheaper, cheapest}
use Rattle.ctt_edits.proofs.PriceOrder.{inserted}
use Rattle.ctt_edits.specs.declared.edit.Edit.{Edit}
use Rattle.ctt_edits.specs.declared.edit.Edit.TheVariants.{Place, Move, Swap, Reroom}
use Rattle.ctt_edits.specs.declared.pattern.Pattern.{Pattern}
use Rattle.ctt_edits.specs.declared.pattern.Pattern.TheVariants.{Place as AnyPlace, Move as AnyMove, Swap as AnySwap, Reroom as AnyReroom}
use Rattle.ctt_edits.specs.declared.priced_edit.PricedEdit.{PricedEdit}

-- an edit inserted where the search for its place stops
pub inserted_is : (x : PricedEdit) (xs : List PricedEdit) → insert xs (position_or_len (is_cheaper x) xs) x ≡ put is_cheaper x xs
inserted_is x xs = sym (put_is is_cheaper x xs)

-- what is cut off a list makes no difference to a shorter prefix
take_again : {X : Type 0} (n : ℕ) (xs : List X) → take n (take (suc n) xs) ≡ take n xs
take_again zero xs = refl
take_again (suc n) [] = refl
take_again (suc n) (x ∷ xs) = ap (λ ys. x ∷ ys) (take_again n xs)

take_cons : {X : Type 0} (n : ℕ) (y : X) (ys : List X) → take n (y ∷ take n ys) ≡ take n (y ∷ ys)
take_cons zero y ys = refl
take_cons (suc n) y ys = ap (λ zs. y ∷ zs) (take_again n ys)

-- nor to the prefix of the list after more is inserted
put_front : {X : Type 0} (lt : X → X → Bool) (x : X) (n : ℕ) (xs : List X) → take n (put lt x (take n xs)) ≡ take n (put lt x xs)
put_front lt x zero xs = refl
put_front lt x (suc n) [] = refl
put_front lt x (suc n) (y ∷ ys) = elim (cases_Bool (lt x y)) [
  | inl b ↦ rw b (ap (λ zs. x ∷ zs) (take_cons n y ys))
  | inr b ↦ rw b (ap (λ zs. y ∷ zs) (put_front lt x n ys))
]

-- the cheapest of all are those of the cheapest so far and of the others
n_cheapest_is : (n : ℕ) (list xs : List PricedEdit) → n_cheapest n (take n list) xs ≡ take n (inserted list xs)
n_cheapest_is n list [] = refl
n_cheapest_is n list (x ∷ xs) = ap (λ ls. n_cheapest n ls xs) (put_front is_cheaper x n list) ∙ n_cheapest_is n (put is_cheaper x list) xs

n_cheapest_append : (n : ℕ) (list xs ys : List PricedEdit) → n_cheapest n list (xs ++ ys) ≡ n_cheapest n (n_cheapest n list xs) ys
n_cheapest_append n list [] ys = refl
n_cheapest_append n list (x ∷ xs) ys = n_cheapest_append n (take n (put is_cheaper x list)) xs ys

feasible_append : (i : Problem) (t : List Placed) (es fs : List Edit) → feasible i t (es ++ fs) ≡ feasible i t es ++ feasible i t fs
feasible_append i t [] fs = refl
feasible_append i t (e ∷ es) fs = elim (cases_Bool (is_none (edit_fault i t e))) [
  | inl b ↦ rw b (ap (λ xs. with_price i t e ∷ xs) (feasible_append i t es fs))
  | inr b ↦ rw b (feasible_append i t es fs)
]

-- edits in two parts
pub n_cheapest_parts : (i : Problem) (t : List Placed) (n : ℕ) (list after : List PricedEdit) (all es fs : List Edit) → all ≡ es ++ fs → after ≡ n_cheapest n list (feasible i t es) → n_cheapest n after (feasible i t fs) ≡ n_cheapest n list (feasible i t all)
n_cheapest_parts i t n list after all es fs cut is =
    ap (λ xs. n_cheapest n xs (feasible i t fs)) is ∙ sym (n_cheapest_append n list (feasible i t es) (feasible i t fs)) ∙ ap (n_cheapest n list) (sym (feasible_append i t es fs)) ∙ ap (λ es. n_cheapest n list (feasible i t es)) (sym cut)

-- numbers from one on
pub range_more : (a b : ℕ) → a < b → from_to a b ≡ a ∷ from_to (a + 1) b
range_more a b lt =
    let one_more : b - a ≡ suc (b - (a + 1)) = omega (arith, lt) in
    ap (range_with_len a) one_more

pub range_end : (a b : ℕ) → b ≤ a → from_to a b ≡ []
range_end a b le =
    let none : b - a ≡ 0 = omega (arith, le) in
    ap (range_with_len a) none

-- the next of the edits with one first choice, and with several
pub with_more : (p : Pattern) (x a b : ℕ) → a < b → edits_with p (from_to a b) x ≡ (edit_by p x a ∷ []) ++ edits_with p (from_to (a + 1) b) x
with_more p x a b lt = ap (map (edit_by p x)) (range_more a b lt)

pub with_end : (p : Pattern) (x a b : ℕ) → b ≤ a → edits_with p (from_to a b) x ≡ []
with_end p x a b le = ap (map (edit_by p x)) (range_end a b le)

pub by_more : (p : Pattern) (ys : List ℕ) (a b : ℕ) → a < b → edits_by p (from_to a b) ys ≡ edits_with p ys a ++ edits_by p (from_to (a + 1) b) ys
by_more p ys a b lt = ap (flat_map (edits_with p ys)) (range_more a b lt)

pub by_end : (p : Pattern) (ys : List ℕ) (a b : ℕ) → b ≤ a → edits_by p (from_to a b) ys ≡ []
by_end p ys a b le = ap (flat_map (edits_with p ys)) (range_end a b le)

-- nothing more comes
pub n_cheapest_end : (i : Problem) (t : List Placed) (n : ℕ) (list first : List PricedEdit) (rest all : List Edit) → rest ≡ [] → n_cheapest n list (feasible i t rest) ≡ n_cheapest n first (feasible i t all) → list ≡ n_cheapest n first (feasible i t all)
n_cheapest_end i t n list first rest all none same = ap (λ es. n_cheapest n list (feasible i t es)) (sym none) ∙ same

-- the edits of a pattern, choice by choice
pub edits_are : (i : Problem) (p : Pattern) → edits_by p (first_choices i p) (second_choices i p) ≡ edits_of i p
edits_are i (AnyPlace c s r) = refl
edits_are i (AnyMove c s s2 r) = refl
edits_are i (AnySwap c s) = refl
edits_are i (AnyReroom c s r) = append-nil (map (λ y. Reroom c s y) (given_or_all (room_count i) r))

-- the cheapest of all edits of a pattern
pub cheapest_is : (i : Problem) (t : List Placed) (n : ℕ) (p : Pattern) (list : List PricedEdit) (xs ys : List ℕ) → xs ≡ first_choices i p → ys ≡ second_choices i p → list ≡ n_cheapest n [] (feasible i t (edits_by p xs ys)) → list ≡ cheapest i t n p
cheapest_is i t n p list xs ys first second is =
    is ∙ ap₂ (λ a b. n_cheapest n [] (feasible i t (edits_by p a b))) first second ∙ ap (λ es. n_cheapest n [] (feasible i t es)) (edits_are i p)
    ∙ ap (λ ls. n_cheapest n ls (feasible i t (edits_of i p))) (sym (take-nil n)) ∙ n_cheapest_is n [] (feasible i t (edits_of i p))

-- what holds of each of the edits, by what holds of each choice
Each-pairs : {X Y Z : Type 0} (Q : X → Type 0) (R : Y → Type 0) (P : Z → Type 0) (f : X → Y → Z) (xs : List X) (ys : List Y) → Each Q xs → Each R ys → ((x : X) (y : Y) → Q x → R y → P (f x y)) → Each P (flat_map (λ x. map (f x) ys) xs)
Each-pairs Q R P f [] ys h k g = tt
Each-pairs Q R P f (x ∷ xs) ys h k g = Each-append P (map (f x) ys) (flat_map (λ x. map (f x) ys) xs) (Each-mapped P (f x) ys (Each-map R (λ y. P (f x y)) (λ y r. g x y h.0 r) ys k)) (Each-pairs Q R P f xs ys h.1 k g)

-- a choice: below n, and the one that is given if one is
abbrev pub InChoices : ℕ → Option ℕ → ℕ → Type 0
InChoices n None x = x < n
InChoices n (Some y) x = (x < n) × (x ≡ y)

range_within : (a m n : ℕ) → a + m ≤ n → Each (λ x. x < n) (range_with_len a m)
range_within a zero n le = tt
range_within a (suc m) n le = (omega (arith, le), range_within (a + 1) m n (omega (arith, le)))

each_choice : (n : ℕ) (o : Option ℕ) → FitsIfGiven n o → Each (InChoices n o) (given_or_all n o)
each_choice n None h = range_within 0 n n (omega arith)
each_choice n (Some y) h = ((h, refl), tt)

each_room : (i : Problem) (o : Option ℕ) → IsRoomIfGiven i o → Each (InChoices (room_count i) o) (given_or_all (room_count i) o)
each_room i None h = each_choice (room_count i) None tt
each_room i (Some r) h = each_choice (room_count i) (Some r) h.0

pub choice_within : (n : ℕ) (o : Option ℕ) (x : ℕ) → InChoices n o x → x < n
choice_within n None x h = h
choice_within n (Some y) x h = h.0

abbrev pub FirstOf : Problem → Pattern → ℕ → Type 0
FirstOf i (AnyPlace c s r) x = InChoices (slot_count i) s x
FirstOf i (AnyMove c s s2 r) x = InChoices (slot_count i) s2 x
FirstOf i (AnySwap c s) x = InChoices (course_count i) None x
FirstOf i (AnyReroom c s r) x = x ≡ s

abbrev pub SecondOf : Problem → Pattern → ℕ → Type 0
SecondOf i (AnyPlace c s r) y = InChoices (room_count i) r y
SecondOf i (AnyMove c s s2 r) y = InChoices (room_count i) r y
SecondOf i (AnySwap c s) y = InChoices (slot_count i) None y
SecondOf i (AnyReroom c s r) y = InChoices (room_count i) r y

-- what holds of each edit of a pattern
pub each_edit : (i : Problem) (p : Pattern) (P : Edit → Type 0) → PatternFits i p → ((x y : ℕ) → FirstOf i p x → SecondOf i p y → P (edit_by p x y)) → Each P (edits_of i p)
each_edit i (AnyPlace c s r) P f g = Each-pairs (InChoices (slot_count i) s) (InChoices (room_count i) r) P (Place c) (given_or_all (slot_count i) s) (given_or_all (room_count i) r) (each_choice (slot_count i) s f.1) (each_room i r f.2) g
each_edit i (AnyMove c s s2 r) P f g = Each-pairs (InChoices (slot_count i) s2) (InChoices (room_count i) r) P (Move c s) (given_or_all (slot_count i) s2) (given_or_all (room_count i) r) (each_choice (slot_count i) s2 f.2) (each_room i r f.3) g
each_edit i (AnySwap c s) P f g = Each-pairs (InChoices (course_count i) None) (InChoices (slot_count i) None) P (Swap c s) (given_or_all (course_count i) None) (given_or_all (slot_count i) None) (each_choice (course_count i) None tt) (each_choice (slot_count i) None tt) g
each_edit i (AnyReroom c s r) P f g = Each-mapped P (Reroom c s) (given_or_all (room_count i) r) (Each-map (InChoices (room_count i) r) (λ y. P (Reroom c s y)) (λ y k. g s y refl k) (given_or_all (room_count i) r) (each_room i r f.2))

pub edit_fits : (i : Problem) (p : Pattern) (x y : ℕ) → PatternFits i p → FirstOf i p x → SecondOf i p y → EditFits i (edit_by p x y)
edit_fits i (AnyPlace c s r) x y f a b = (f.0, choice_within (slot_count i) s x a, choice_within (room_count i) r y b)
edit_fits i (AnyMove c s s2 r) x y f a b = (f.0, f.1, choice_within (slot_count i) s2 x a, choice_within (room_count i) r y b)
edit_fits i (AnySwap c s) x y f a b = (f.0, f.1, a, b)
edit_fits i (AnyReroom c s r) x y f a b = (f.0, subst (λ z. z < slot_count i) (sym a) f.1, choice_within (room_count i) r y b)

pub edits_fit : (i : Problem) (p : Pattern) → PatternFits i p → Each (EditFits i) (edits_of i p)
edits_fit i p f = each_edit i p (EditFits i) f (λ x y. edit_fits i p x y f)

pub choices_fit : (i : Problem) (p : Pattern) (xs ys : List ℕ) → PatternFits i p → xs ≡ first_choices i p → ys ≡ second_choices i p → Each (EditFits i) (edits_by p xs ys)
choices_fit i p xs ys f first second = subst (Each (EditFits i)) (sym (edits_are i p) ∙ ap₂ (edits_by p) (sym first) (sym second)) (edits_fit i p f)
