-- A draft that is not stale does on the present timetable what it did on its snapshot.
use Rattle.std.proofs.Common.{◌≡◌, ◌↔◌, IsTrue, ℕ, Bool, true, false, not, ◌&&◌, ◌==◌, List, [], ◌∷◌, ◌++◌, Some, None, refl, ◌∙◌, sym, ap, ap₂, subst, inl, inr}
use Rattle.std.specs.List.{find, AllByRecursion as Each}
use Rattle.std.proofs.lemmas.Bool.{cases_Bool, eqb-true, eq-eqb, and_parts, or_left, or_right, not-false}
use Rattle.std.proofs.lemmas.List.Elements.{All-from_recursion}
use Rattle.ctt_problem.specs.Problem.{Problem}
use Rattle.ctt_problem.specs.Timetable.{Ascending}
use Rattle.ctt_problem.specs.declared.placed.Placed.{Placed}
use Rattle.ctt_problem.proofs.LectureLaws.{placed_same}
use Rattle.ctt_problem.proofs.TimetableLemmas.{Each-map}
use Rattle.ctt_rules.specs.Hard.{Lawful}
use Rattle.ctt_board.specs.Changes.{apply, apply_all, ChangesFit}
use Rattle.ctt_board.specs.declared.cell.Cell.{Cell}
use Rattle.ctt_board.proofs.ApplyLemmas.{agree_apply}
use Rattle.ctt_board.proofs.OrderLemmas.{in_order}
use Rattle.ctt_edits.specs.Calls.{CallFits, cells_of_call, reads_course, reads_slot, row, Agree}
use Rattle.ctt_edits.specs.declared.call.Call.{Call}
use Rattle.ctt_edits.specs.declared.row.Row.{Row}
use Rattle.ctt_edits.proofs.CallLemmas.{reply_same, cells_same}
use Rattle.ctt_edits.proofs.ReadLemmas.{AgreeOn, agree_on}
use Rattle.ctt_draft.specs.DraftValues.{SettlesAtOnce}
use Rattle.ctt_draft.specs.Drafts.{calls_of, after_call, replies, made, changes, all_read_course, all_read_slot, all_reads, same_lecture, same_list, differs, stale}
use Rattle.ctt_draft.specs.DraftLaws.{DraftFrame, SettlingFits}
use Rattle.ctt_draft.proofs.CallRuns.{lawful_after_call, whole_is, changes_fit}

-- rows in which two timetables agree still agree after the same cells
agree_after : (p q : ℕ → Bool) (cells : List Cell) (t u : List Placed) → Ascending t → Ascending u → AgreeOn p q t u → AgreeOn p q (apply cells t) (apply cells u)
agree_after p q cells t u h k a = record {
  courses = λ c y. agree_apply (λ l. l.course == c) cells t u (in_order t h) (in_order u k) (a.courses c y);
  slots = λ s y. agree_apply (λ l. l.slot == s) cells t u (in_order t h) (in_order u k) (a.slots s y);
}

-- calls get the same replies, and make the same changes, on two timetables that agree in all rows
-- that they read
run_same : (i : Problem) (p q : ℕ → Bool) (calls : List Call) (t u : List Placed) → Lawful i t → Lawful i u → Each (CallFits i) calls → AgreeOn p q t u →
    ((c : ℕ) → all_read_course i calls c ≡ true → p c ≡ true) → ((s : ℕ) → all_read_slot calls s ≡ true → q s ≡ true) →
    (replies i t calls ≡ replies i u calls) × (changes i t calls ≡ changes i u calls)
run_same i p q [] t u h k f a pc qs = (refl, refl)
run_same i p q (call ∷ calls) t u h k f a pc qs =
    let here : AgreeOn (reads_course i call) (reads_slot call) t u = record {
      courses = λ c y. a.courses c (pc c (or_left (reads_course i call c) (all_read_course i calls c) y));
      slots = λ s y. a.slots s (qs s (or_left (reads_slot call s) (all_read_slot calls s) y));
    } in
    let same : cells_of_call i t call ≡ cells_of_call i u call = cells_same i call t u h.timetable k.timetable here in
    let after : AgreeOn p q (after_call i t call) (after_call i u call) =
    subst (λ cells. AgreeOn p q (after_call i t call) (apply cells u)) same (agree_after p q (cells_of_call i t call) t u h.timetable.ascending k.timetable.ascending a) in
    let rest : (replies i (after_call i t call) calls ≡ replies i (after_call i u call) calls) × (changes i (after_call i t call) calls ≡ changes i (after_call i u call) calls) =
    run_same i p q calls (after_call i t call) (after_call i u call) (lawful_after_call i t call h f.0) (lawful_after_call i u call k f.0) f.1 after
    (λ c y. pc c (or_right (reads_course i call c) (all_read_course i calls c) y)) (λ s y. qs s (or_right (reads_slot call s) (all_read_slot calls s) y)) in
    (ap₂ (λ x xs. x ∷ xs) (reply_same i call t u h.timetable k.timetable f.0 here) rest.0, ap₂ (λ x xs. made x ++ xs) same rest.1)

-- the test for equal lists holds of equal lists only
same_lecture_true : (a b : Placed) → same_lecture a b ≡ true → a ≡ b
same_lecture_true a b h =
    let x = and_parts (a.course == b.course && a.slot == b.slot) (a.room == b.room) h in
    let y = and_parts (a.course == b.course) (a.slot == b.slot) x.0 in
    placed_same a.course b.course a.slot b.slot a.room b.room (eqb-true a.course b.course y.0) (eqb-true a.slot b.slot y.1) (eqb-true a.room b.room x.1)

pub same_list_true : (xs ys : List Placed) → same_list xs ys ≡ true → xs ≡ ys
same_list_true [] [] h = refl
same_list_true [] (y ∷ ys) h = cc
same_list_true (x ∷ xs) [] h = cc
same_list_true (x ∷ xs) (y ∷ ys) h =
    let parts = and_parts (same_lecture x y) (same_list xs ys) h in
    ap₂ (λ z zs. z ∷ zs) (same_lecture_true x y parts.0) (same_list_true xs ys parts.1)

same_list_refl : (xs : List Placed) → same_list xs xs ≡ true
same_list_refl [] = refl
same_list_refl (x ∷ xs) = rw (eq-eqb x.course x.course refl, eq-eqb x.slot x.slot refl, eq-eqb x.room x.room refl) (same_list_refl xs)

-- rows differ if and only if they are not equal
pub differs_by : (b : Bool) (t u : List Placed) (r : Row) → IsTrue b ↔ (row r t ≡ row r u) → not b ≡ differs t u r
differs_by true t u r h =
    let same : row r t ≡ row r u = h.0 refl in
    sym (ap (λ xs. not (same_list (row r t) xs)) (sym same) ∙ ap not (same_list_refl (row r t)))
differs_by false t u r h = elim (cases_Bool (same_list (row r t) (row r u))) [
  | inl y ↦ absurd (let bad = h.1 (same_list_true (row r t) (row r u) y) in cc)
  | inr n ↦ sym (ap not n)
]

-- no row of a timetable differs from itself, so nothing is stale there
none_stale : (i : Problem) (t : List Placed) (calls : List Call) → stale i t t calls ≡ None
none_stale i t calls = none (all_reads i calls)
  where
    none : (rows : List Row) → find (differs t t) rows ≡ None
    none [] = refl
    none (r ∷ rows) = rw (same_list_refl (row r t)) (none rows)

first_none : {X : Type 0} (p : X → Bool) (xs : List X) → find p xs ≡ None → Each (λ x. p x ≡ false) xs
first_none p [] h = tt
first_none p (x ∷ xs) h = elim (cases_Bool (p x)) [
  | inl b ↦ (let h' : Some x ≡ None = rw b at h in cc)
  | inr b ↦ (let h' : find p xs ≡ None = rw b at h in (b, first_none p xs h'))
]

-- the rows read by a draft that is not stale are the same on both timetables
pub agree_read : (i : Problem) (base now : List Placed) (calls : List Call) → Lawful i base → Lawful i now → stale i base now calls ≡ None → AgreeOn (all_read_course i calls) (all_read_slot calls) now base
agree_read i base now calls h k fresh =
    let same_row : (r : Row) → differs base now r ≡ false → row r now ≡ row r base = λ r e. sym (same_list_true (row r base) (row r now) (not-false (same_list (row r base) (row r now)) e)) in
    let agree : Agree now base (all_reads i calls) = All-from_recursion (λ r. row r now ≡ row r base) (all_reads i calls)
    (Each-map (λ r. differs base now r ≡ false) (λ r. row r now ≡ row r base) same_row (all_reads i calls) (first_none (differs base now) (all_reads i calls) fresh)) in
    agree_on i (all_read_course i calls) (all_read_slot calls) now base k.timetable h.timetable agree

pub draft_frame : DraftFrame
draft_frame i base now calls h k f fresh =
    let same : (replies i now calls ≡ replies i base calls) × (changes i now calls ≡ changes i base calls) =
    run_same i (all_read_course i calls) (all_read_slot calls) calls now base k h f (agree_read i base now calls h k fresh) (λ c y. y) (λ s y. y) in
    record { replies_same = same.0; changes_same = same.1; left = whole_is i calls now ∙ ap (λ list. apply_all list now) same.1 }

pub settling_fits : SettlingFits
settling_fits i base now calls h k f fresh =
    subst (λ list. ChangesFit i list now) (draft_frame i base now calls h k f fresh).changes_same (changes_fit i now calls k f)

pub settles_at_once : SettlesAtOnce
settles_at_once d h told =
    let none = none_stale d.problem d.base (calls_of d.asked) in
    (none, record { fit = settling_fits d.problem d.base d.base (calls_of d.asked) h h told.fit none; same = draft_frame d.problem d.base d.base (calls_of d.asked) h h told.fit none })
