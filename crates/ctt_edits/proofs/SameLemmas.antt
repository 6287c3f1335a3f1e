-- The test of two lists of lectures holds of equal lists alone.
use Rattle.std.proofs.Common.{◌≡◌, ◌↔◌, IsTrue, ℕ, Bool, true, ◌&&◌, ◌==◌, List, [], ◌∷◌, refl, ◌∙◌, sym, ap₂, subst}
use Rattle.std.specs.Cmp.Lexicographic.{pointwise}
use Rattle.std.proofs.lemmas.Bool.{eq-eqb, eqb-true, and_parts}
use Rattle.ctt_problem.specs.declared.placed.Placed.{Placed}

abbrev pub same_lecture : Placed → Placed → Bool
same_lecture a b = a.course == b.course && a.slot == b.slot && a.room == b.room

abbrev pub same_list : List Placed → List Placed → Bool
same_list t u = pointwise same_lecture t u

same_lecture_true : (a b : Placed) → same_lecture a b ≡ true → a ≡ b
same_lecture_true a b h =
    let x = and_parts (a.course == b.course && a.slot == b.slot) (a.room == b.room) h in
    let y = and_parts (a.course == b.course) (a.slot == b.slot) x.0 in
    of_parts a.course b.course a.slot b.slot a.room b.room (eqb-true a.course b.course y.0) (eqb-true a.slot b.slot y.1) (eqb-true a.room b.room x.1)
  where
    of_parts : (c d s s2 r q : ℕ) → c ≡ d → s ≡ s2 → r ≡ q → ◌≡◌ {A = Placed} (record { course = c; slot = s; room = r }) (record { course = d; slot = s2; room = q })
    of_parts c d s s2 r q e f g = rw (e, f, g) refl

same_list_true : (xs ys : List Placed) → same_list xs ys ≡ true → xs ≡ ys
same_list_true [] [] h = refl
same_list_true [] (y ∷ ys) h = cc
same_list_true (x ∷ xs) [] h = cc
same_list_true (x ∷ xs) (y ∷ ys) h =
    let parts = and_parts (same_lecture x y) (same_list xs ys) h in
    ap₂ (λ z zs. z ∷ zs) (same_lecture_true x y parts.0) (same_list_true xs ys parts.1)

itself : (xs : List Placed) → same_list xs xs ≡ true
itself [] = refl
itself (x ∷ xs) = rw (eq-eqb x.course x.course refl, eq-eqb x.slot x.slot refl, eq-eqb x.room x.room refl) (itself xs)

pub same_lists : (answer : Bool) (xs ys us vs : List Placed) → answer ≡ same_list xs ys → xs ≡ us → ys ≡ vs → IsTrue answer ↔ (us ≡ vs)
same_lists answer xs ys us vs e k l = (
  (λ h. sym k ∙ same_list_true xs ys (sym e ∙ h) ∙ l),
  (λ h. e ∙ subst (λ zs. same_list xs zs ≡ true) (k ∙ h ∙ sym l) (itself xs)),
)

-- a test of two lists, by a test of two elements that holds of equal ones alone
module _ {X : Type 0} (same : X → X → Bool) (holds : (x y : X) → same x y ≡ true → x ≡ y) (always : (x : X) → same x x ≡ true) where
  each_true : (xs ys : List X) → pointwise same xs ys ≡ true → xs ≡ ys
  each_true [] [] h = refl
  each_true [] (y ∷ ys) h = cc
  each_true (x ∷ xs) [] h = cc
  each_true (x ∷ xs) (y ∷ ys) h =
      let parts = and_parts (same x y) (pointwise same xs ys) h in
      ap₂ (λ z zs. z ∷ zs) (holds x y parts.0) (each_true xs ys parts.1)

  each_itself : (xs : List X) → pointwise same xs xs ≡ true
  each_itself [] = refl
  each_itself (x ∷ xs) = rw (always x) (each_itself xs)

  pub same_by : (answer : Bool) (xs ys us vs : List X) → answer ≡ pointwise same xs ys → xs ≡ us → ys ≡ vs → IsTrue answer ↔ (us ≡ vs)
  same_by answer xs ys us vs e k l = (
    (λ h. sym k ∙ each_true xs ys (sym e ∙ h) ∙ l),
    (λ h. e ∙ subst (λ zs. pointwise same xs zs ≡ true) (k ∙ h ∙ sym l) (each_itself xs)),
  )
