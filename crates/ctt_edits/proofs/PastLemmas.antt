-- No call reads rows that the instance does not have, but for looks at all courses of some kind.
use Rattle.std.proofs.Common.{◌≡◌, ℕ, ◌<◌, ◌≤◌, Bool, true, false, ◌&&◌, ◌||◌, List, [], ◌∷◌, refl, ap₂, arith}
use Rattle.std.specs.List.{list_any, AllByRecursion as Each}
use Rattle.std.proofs.lemmas.Bool.{ne_eqb}
use Rattle.ctt_problem.specs.Lists.{has}
use Rattle.ctt_problem.specs.Problem.{Problem, IsProblem, AreMembers, course_count, slot_count, mates}
use Rattle.ctt_edits.specs.Calls.{edit_courses, edit_slots, with_mates}
use Rattle.ctt_edits.specs.Edits.{EditFits}
use Rattle.ctt_edits.specs.declared.edit.Edit.{Edit}
use Rattle.ctt_edits.specs.declared.edit.Edit.TheVariants.{Place, Move, Swap, Reroom, Drop}

-- of numbers below m none is from m on
pub has_past : (m n : ℕ) (xs : List ℕ) → m ≤ n → Each (λ x. x < m) xs → has n xs ≡ false
has_past m n [] le h = refl
has_past m n (x ∷ xs) le h = ap₂ (λ a b. a || b) (ne_eqb x n (λ e. omega (arith, e, le, h.0))) (has_past m n xs le h.1)

-- nor a curriculum mate
both : (a b : Bool) → b ≡ false → (a && b) ≡ false
both true b e = e
both false b e = refl

mates_among : (m c n : ℕ) (qs : List (List ℕ)) → m ≤ n → Each (AreMembers m) qs → list_any (λ q. has c q && has n q) qs ≡ false
mates_among m c n [] le h = refl
mates_among m c n (q ∷ qs) le h = ap₂ (λ a b. a || b) (both (has c q) (has n q) (has_past m n q le h.0.0)) (mates_among m c n qs le h.1)

pub mates_past : (i : Problem) (c n : ℕ) → IsProblem i → course_count i ≤ n → mates i c n ≡ false
mates_past i c n p le = mates_among (course_count i) c n i.curricula le p.curricula

all_past : (i : Problem) (n : ℕ) (cs : List ℕ) → IsProblem i → course_count i ≤ n → list_any (λ c. mates i c n) cs ≡ false
all_past i n [] p le = refl
all_past i n (c ∷ cs) p le = ap₂ (λ a b. a || b) (mates_past i c n p le) (all_past i n cs p le)

-- nor a course or a slot of an edit
courses_fit : (i : Problem) (e : Edit) → EditFits i e → Each (λ c. c < course_count i) (edit_courses e)
courses_fit i (Place c s r) h = (h.0, tt)
courses_fit i (Move c s s2 r) h = (h.0, tt)
courses_fit i (Swap c s d s2) h = (h.0, (h.2, tt))
courses_fit i (Reroom c s r) h = (h.0, tt)
courses_fit i (Drop c s) h = (h.0, tt)

slots_fit : (i : Problem) (e : Edit) → EditFits i e → Each (λ s. s < slot_count i) (edit_slots e)
slots_fit i (Place c s r) h = (h.1, tt)
slots_fit i (Move c s s2 r) h = (h.2, tt)
slots_fit i (Swap c s d s2) h = (h.1, (h.3, tt))
slots_fit i (Reroom c s r) h = (h.1, tt)
slots_fit i (Drop c s) h = tt

pub courses_past : (i : Problem) (e : Edit) (n : ℕ) → EditFits i e → course_count i ≤ n → has n (edit_courses e) ≡ false
courses_past i e n h le = has_past (course_count i) n (edit_courses e) le (courses_fit i e h)

pub slots_past : (i : Problem) (e : Edit) (n : ℕ) → EditFits i e → slot_count i ≤ n → has n (edit_slots e) ≡ false
slots_past i e n h le = has_past (slot_count i) n (edit_slots e) le (slots_fit i e h)

pub price_past : (i : Problem) (e : Edit) (n : ℕ) → IsProblem i → EditFits i e → course_count i ≤ n → (has n (edit_courses e) || list_any (λ c. mates i c n) (edit_courses e)) ≡ false
price_past i e n p h le = ap₂ (λ a b. a || b) (courses_past i e n h le) (all_past i n (edit_courses e) p le)

-- nor one course, and nor a curriculum mate of it
pub one_past : (i : Problem) (c n : ℕ) → IsProblem i → c < course_count i → course_count i ≤ n → with_mates i (c ∷ []) n ≡ false
one_past i c n p lt le = ap₂ (λ a b. a || b) (has_past (course_count i) n (c ∷ []) le (lt, tt)) (all_past i n (c ∷ []) p le)

-- what is marked besides
pub no_more : (a b : Bool) → b ≡ false → (a || b) ≡ a
no_more true b e = refl
no_more false b e = e

-- what is marked in two steps
pub mates_of_one : (a b m : Bool) → ((a || b) || m) ≡ (a || (b || (m || false)))
mates_of_one true b m = refl
mates_of_one false true m = refl
mates_of_one false false true = refl
mates_of_one false false false = refl
