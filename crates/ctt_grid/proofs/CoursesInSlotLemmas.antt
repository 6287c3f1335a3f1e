-- The courses that have a lecture in a slot.
use Rattle.std.proofs.Common.{◌≡◌, ℕ, Bool, true, false, cond, ◌&&◌, ◌==◌, List, [], ◌∷◌, Option, is_some, refl, ◌∙◌, sym, ap, arith, inl, inr}
use Rattle.std.specs.List.{find, list_any}
use Rattle.std.proofs.lemmas.Bool.{cases_Bool}
use Rattle.std.proofs.lemmas.Bool.Decides.{nat_tests}
use Rattle.ctt_problem.specs.Problem.{Problem}
use Rattle.ctt_problem.specs.Timetable.{has_lecture}
use Rattle.ctt_problem.specs.declared.placed.Placed.{Placed}
use Rattle.ctt_board.specs.Changes.{room_at, room_of, apply_at, CellFits}
use Rattle.ctt_grid.specs.Grids.{AreInSlots, HaveRows}
use Rattle.ctt_problem.specs.BitRows.{BitTable, is_marked_in, SetsMark}
use Rattle.ctt_board.proofs.RoomLemmas.{is_at, room_is, room_after}

-- a course has a lecture in a slot exactly if it has a room there
pub stands_there : (c s : ℕ) (t : List Placed) → has_lecture c s t ≡ is_some (room_at c s t)
stands_there c s t = any_found (is_at c s) t ∙ ap is_some (sym (room_is c s t))
  where
    any_found : (p : Placed → Bool) (xs : List Placed) → list_any p xs ≡ is_some (room_of (find p xs))
    any_found p [] = refl
    any_found p (x ∷ xs) = elim (cases_Bool (p x)) [ inl y ↦ rw y refl | inr n ↦ rw n (any_found p xs) ]

-- the table of the courses in each slot, after a cell that fits, and of the empty timetable
pub in_slots_after_cell : (i : Problem) (t : List Placed) (old new : BitTable) (c s : ℕ) (o : Option ℕ) → AreInSlots i t old → SetsMark old new s c (is_some o) → CellFits t c s o → AreInSlots i (apply_at c s o t) new
in_slots_after_cell i t old new c s o h w fits = record {
  size = (w.rows ∙ h.size.0, w.width ∙ h.size.1);
  courses = λ e d le. w.marks e d ∙ ap (cond (e == s && d == c) (is_some o)) (h.courses e d le) ∙ inside (e == s && d == c) (c == d && s == e) (room_at d e t) (turned d e) ∙ ap is_some (sym (room_after c s o d e t fits));
}
  where
    turned : (d e : ℕ) → (e == s && d == c) ≡ (c == d && s == e)
    turned d e = grind (arith, nat_tests)

    inside : (a b : Bool) (p : Option ℕ) → a ≡ b → cond a (is_some o) (is_some p) ≡ is_some (cond b o p)
    inside true true p e = refl
    inside false false p e = refl
    inside true false p e = cc
    inside false true p e = cc

pub none_in_slots : (i : Problem) (g : BitTable) → HaveRows g i → ((s c : ℕ) → is_marked_in g s c ≡ false) → AreInSlots i [] g
none_in_slots i g size none = record { size = size; courses = λ s c _. none s c }
