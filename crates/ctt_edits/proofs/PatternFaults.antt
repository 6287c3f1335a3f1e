-- If a pattern has a fault, each of its edits is refused.
use Rattle.std.proofs.Common.{◌≡◌, ℕ, Bool, true, false, ◌==◌, List, length, nat_le, Some, is_none, is_some, refl, ◌∙◌, ap, inl, inr}
use Rattle.std.specs.List.{find}
use Rattle.std.proofs.lemmas.Bool.{cases_Bool, or_left}
use Rattle.ctt_problem.specs.Problem.{Problem, course_of}
use Rattle.ctt_problem.specs.Timetable.{course_row}
use Rattle.ctt_problem.specs.declared.placed.Placed.{Placed}
use Rattle.ctt_board.specs.Changes.{room_of, room_at}
use Rattle.ctt_edits.specs.Candidates.{edit_by}
use Rattle.ctt_edits.specs.Edits.{fault_if, edit_fault}
use Rattle.ctt_edits.specs.EditLaws.{PatternFaultStands}
use Rattle.ctt_edits.specs.Patterns.{pattern_fault}
use Rattle.ctt_edits.specs.declared.fault.EditFault.{EditFault}
use Rattle.ctt_edits.specs.declared.fault.EditFault.TheVariants.{NotPlaced, CourseFull}
use Rattle.ctt_edits.specs.declared.pattern.Pattern.{Pattern}
use Rattle.ctt_edits.specs.declared.pattern.Pattern.TheVariants.{Place as AnyPlace, Move as AnyMove, Swap as AnySwap, Reroom as AnyReroom}
use Rattle.ctt_edits.proofs.CheapestLemmas.{FirstOf, each_edit}

stands : (b : Bool) (f g : EditFault) → fault_if b f ≡ Some g → b ≡ true
stands true f g h = refl
stands false f g h = cc

refused : (i : Problem) (t : List Placed) (p : Pattern) (g : EditFault) → pattern_fault i t p ≡ Some g → (x y : ℕ) → FirstOf i p x → is_none (edit_fault i t (edit_by p x y)) ≡ false
refused i t (AnyPlace c s r) g h x y first = elim (cases_Bool (is_some (room_of (find (λ l. l.slot == x) (course_row c t))))) [
  | inl b ↦ rw b refl
  | inr b ↦ rw (b, stands (nat_le (course_of i c).lectures (length (course_row c t))) CourseFull g h) refl
]
refused i t (AnyMove c s s2 r) g h x y first = rw (stands (is_none (room_at c s t)) NotPlaced g h) refl
refused i t (AnySwap c s) g h x y first = rw (or_left (is_none (room_at c s t)) (is_none (room_at x y t)) (stands (is_none (room_at c s t)) NotPlaced g h)) refl
refused i t (AnyReroom c s r) g h x y first = rw (ap (λ z. is_none (room_at c z t)) first ∙ stands (is_none (room_at c s t)) NotPlaced g h) refl

pub pattern_fault_stands : PatternFaultStands
pattern_fault_stands i t p g f h = each_edit i p (λ e. is_none (edit_fault i t e) ≡ false) f (λ x y first second. refused i t p g h x y first)
