-- The clashing course that is named has the lowest number.
use Rattle.std.proofs.Common.{◌≡◌, ℕ, ◌≤◌, Bool, true, false, leb, ◌==◌, List, [], ◌∷◌, length, Option, Some, None, is_some, refl, ◌∙◌, sym, subst, arith, inl, inr}
use Rattle.std.specs.List.{find, AllByRecursion as Each}
use Rattle.std.specs.Option.{option_map}
use Rattle.std.proofs.lemmas.Bool.{cases_Bool, eq-eqb}
use Rattle.std.proofs.lemmas.Bool.Decides.{nat_tests}
use Rattle.ctt_problem.specs.Lists.{Pairwise}
use Rattle.ctt_problem.specs.Problem.{course_of, clash, is_unavailable, is_barred, is_blocked}
use Rattle.ctt_problem.specs.Timetable.{before, course_row, slot_row}
use Rattle.ctt_problem.specs.declared.placed.Placed.{Placed}
use Rattle.ctt_problem.proofs.TimetableLemmas.{Each-map}
use Rattle.ctt_rules.proofs.ListLemmas.{Pairwise-filter}
use Rattle.ctt_board.specs.Changes.{room_at}
use Rattle.ctt_edits.specs.Edits.{or_else, fault_if}
use Rattle.ctt_edits.specs.EditLaws.{ClashIsLeast}
use Rattle.ctt_edits.specs.declared.fault.EditFault.{EditFault}
use Rattle.ctt_edits.specs.declared.fault.EditFault.TheVariants.{AlreadyThere, CourseFull, Unavailable, Barred, Blocked, Clash, RoomTaken}
use Rattle.ctt_board.proofs.LawfulLemmas.{Each-from_filter}
use Rattle.ctt_edits.proofs.FaultLemmas.{try_is}

not_above : (a b : Placed) → before a b ≡ true → a.course ≤ b.course
not_above a b lt = grind (arith, nat_tests)

-- a later fault, if the first is another one
later : (b : Bool) (f g : EditFault) (rest : Option EditFault) → (f ≡ g → ⊥) → or_else (fault_if b f) rest ≡ Some g → rest ≡ Some g
later true f g rest n e = absurd (n cc)
later false f g rest n e = e

-- the same of some faults
later_all : (a b d : Bool) (f h k g : EditFault) (rest : Option EditFault) → (f ≡ g → ⊥) → (h ≡ g → ⊥) → (k ≡ g → ⊥) → or_else (or_else (fault_if a f) (or_else (fault_if b h) (fault_if d k))) rest ≡ Some g → rest ≡ Some g
later_all true b d f h k g rest n m o e = absurd (n cc)
later_all false true d f h k g rest n m o e = absurd (m cc)
later_all false false d f h k g rest n m o e = later d k g rest o e

clashing : (o p : Option Placed) (d : ℕ) → or_else (option_map Clash (option_map (λ (l : Placed). l.course) o)) (option_map RoomTaken (option_map (λ (l : Placed). l.course) p)) ≡ Some (Clash d) → (l : Placed) × (o ≡ Some l) × (l.course ≡ d)
clashing (Some l) p d e = (l, refl, cc)
clashing None (Some l) d e = cc
clashing None None d e = cc

-- the first of an ascending list that passes is no higher than any that passes
record IsLeast (p : Placed → Bool) (xs : List Placed) (l : Placed) : Type 0 where
  passes : p l ≡ true
  least : Each (λ (y : Placed). p y ≡ true → l.course ≤ y.course) xs

least_first : (p : Placed → Bool) (xs : List Placed) (l : Placed) → Pairwise (λ a b. before a b ≡ true) xs → find p xs ≡ Some l → IsLeast p xs l
least_first p [] l h e = cc
least_first p (y ∷ ys) l h e = elim (cases_Bool (p y)) [
  | inl b ↦ (
      let e' : ◌≡◌ {A = Option Placed} (Some y) (Some l) = rw b at e in
      let same : y ≡ l = cc in
      subst (λ z. IsLeast p (y ∷ ys) z) same (record { passes = b; least = ((λ k. omega arith), Each-map (λ w. before y w ≡ true) (λ w. p w ≡ true → y.course ≤ w.course) (λ w lt k. not_above y w lt) ys h.0) }))
  | inr b ↦ (
      let e' : find p ys ≡ Some l = rw b at e in
      let rest : IsLeast p ys l = least_first p ys l h.1 e' in
      record { passes = rest.passes; least = ((λ k. let z : true ≡ false = sym k ∙ b in cc), rest.least) })
]

pub clash_is_least : ClashIsLeast
clash_is_least i t c s r d h e =
    let e1 = later (is_some (room_at c s t)) AlreadyThere (Clash d) _ (λ z. cc) (sym (try_is i t c s r) ∙ e) in
    let e2 = later (leb (course_of i c).lectures (length (course_row c t))) CourseFull (Clash d) _ (λ z. cc) e1 in
    let e3 = later_all (is_unavailable i c s) (is_barred i c r) (is_blocked i r s) Unavailable Barred Blocked (Clash d) _ (λ z. cc) (λ z. cc) (λ z. cc) e2 in
    let f = clashing (find (λ l. clash i c l.course) (slot_row s t)) (find (λ l. l.room == r) (slot_row s t)) d e3 in
    let first : IsLeast (λ l. clash i c l.course) (slot_row s t) f.0 = least_first (λ l. clash i c l.course) (slot_row s t) f.0 (Pairwise-filter (λ a b. before a b ≡ true) (λ l. l.slot == s) t h) f.1 in (
      subst (λ x. clash i c x ≡ true) f.2 first.passes,
      Each-map (λ (l : Placed). (l.slot == s) ≡ true → clash i c l.course ≡ true → f.0.course ≤ l.course) (λ (l : Placed). l.slot ≡ s → clash i c l.course ≡ true → d ≤ l.course)
          (λ l k e b. subst (λ x. x ≤ l.course) f.2 (k (eq-eqb l.slot s e) b)) t
          (Each-from_filter (λ (l : Placed). clash i c l.course ≡ true → f.0.course ≤ l.course) (λ l. l.slot == s) t first.least),
    )
