-- An opening is lawful, and rooms determine a timetable.
use Rattle.std.proofs.Common.{◌≡◌, ℕ, ◌+◌, List, [], ◌∷◌, Option, Some, None, Result, Ok, Err, refl, ◌∙◌, ap, sym, subst, arith, inl, inr}
use Rattle.std.specs.List.{AllByRecursion as Each}
use Rattle.std.proofs.lemmas.Bool.{cases_lt}
use Rattle.ctt_problem.specs.Problem.{Problem, course_count, slot_count}
use Rattle.ctt_problem.specs.Timetable.{Fits}
use Rattle.ctt_problem.specs.declared.placed.Placed.{Placed}
use Rattle.ctt_problem.proofs.ResultLemmas.{err_same}
use Rattle.ctt_rules.specs.Hard.{Lawful}
use Rattle.ctt_rules.proofs.TimetableLemmas.{courses_fit}
use Rattle.ctt_board.specs.Changes.{room_at}
use Rattle.ctt_board.proofs.CellLemmas.{row_same}
use Rattle.ctt_board.proofs.RowLemmas.{course_row_is}
use Rattle.ctt_edits.specs.Edits.{edit_fault, edited}
use Rattle.ctt_edits.specs.Fitting.{FaultFits}
use Rattle.ctt_edits.specs.EditLaws.{OpeningFaultsFit, OpeningIsLawful, RoomsDetermine}
use Rattle.ctt_edits.specs.Openings.{or_rest, placed_on}
use Rattle.ctt_edits.specs.declared.edit.Edit.TheVariants.{Place}
use Rattle.ctt_edits.specs.declared.fault.EditFault.{EditFault}
use Rattle.ctt_edits.proofs.CallLemmas.{same_whole}
use Rattle.ctt_edits.proofs.EditLemmas.{edits_keep_lawful}
use Rattle.ctt_edits.proofs.ReadLemmas.{none_past}
use Rattle.ctt_edits.proofs.ReplyLemmas.{MayFit, edit_fits}

abbrev pub Opened : Type 0
Opened = Result (List Placed) (ℕ × EditFault)

-- one lecture, and then the others
one_placed : (i : Problem) (t u : List Placed) (l : Placed) (n : ℕ) (others : Opened) (o : Option EditFault) → Lawful i t → Fits i l → edit_fault i t (Place l.course l.slot l.room) ≡ o
    → (Lawful i (edited t (Place l.course l.slot l.room)) → others ≡ Ok u → Lawful i u) → or_rest o n others ≡ Ok u → Lawful i u
one_placed i t u l n others None h f k next e = next (edits_keep_lawful i t (Place l.course l.slot l.room) h f k) e
one_placed i t u l n others (Some fault) h f k next e = cc

all_placed : (i : Problem) (t u : List Placed) (n : ℕ) (ls : List Placed) → Lawful i t → Each (Fits i) ls → placed_on i t n ls ≡ Ok u → Lawful i u
all_placed i t u n [] h f e = let same : t ≡ u = cc in subst (Lawful i) same h
all_placed i t u n (l ∷ ls) h f e =
    one_placed i t u l n (placed_on i (edited t (Place l.course l.slot l.room)) (n + 1) ls) (edit_fault i t (Place l.course l.slot l.room)) h f.0 refl
    (λ h' e'. all_placed i (edited t (Place l.course l.slot l.room)) u (n + 1) ls h' f.1 e') e

empty_lawful : (i : Problem) → Lawful i []
empty_lawful i = record { timetable = record { ascending = tt; fits = tt }; conflict_free = tt; allowed = tt; rooms_apart = tt; few = λ c. omega arith }

pub opening_is_lawful : OpeningIsLawful
opening_is_lawful i ls t f e = all_placed i [] t 1 ls (empty_lawful i) f e

-- one lecture that is refused, or one after it
one_refused : (i : Problem) (t : List Placed) (l : Placed) (n at : ℕ) (fault : EditFault) (others : Opened) (o : Option EditFault) → Lawful i t → Fits i l → edit_fault i t (Place l.course l.slot l.room) ≡ o → MayFit i o
    → (Lawful i (edited t (Place l.course l.slot l.room)) → others ≡ Err (at, fault) → FaultFits i fault) → or_rest o n others ≡ Err (at, fault) → FaultFits i fault
one_refused i t l n at fault others None h f k may next e = next (edits_keep_lawful i t (Place l.course l.slot l.room) h f k) e
one_refused i t l n at fault others (Some found) h f k may next e = subst (FaultFits i) (ap (λ (p : ℕ × EditFault). p.1) (err_same {A = List Placed} (n, found) (at, fault) e)) may.fits

first_refused : (i : Problem) (t : List Placed) (n at : ℕ) (fault : EditFault) (ls : List Placed) → Lawful i t → Each (Fits i) ls → placed_on i t n ls ≡ Err (at, fault) → FaultFits i fault
first_refused i t n at fault [] h f e = cc
first_refused i t n at fault (l ∷ ls) h f e =
    let edit = Place l.course l.slot l.room in
    one_refused i t l n at fault (placed_on i (edited t edit) (n + 1) ls) (edit_fault i t edit) h f.0 refl (edit_fits i t edit h f.0)
    (λ h' e'. first_refused i (edited t edit) (n + 1) at fault ls h' f.1 e') e

pub opening_faults_fit : OpeningFaultsFit
opening_faults_fit i ls at fault f e = first_refused i [] 1 at fault ls (empty_lawful i) f e

pub rooms_determine : RoomsDetermine
rooms_determine i t u h k same = same_whole i t u h k (λ c. elim (cases_lt c (course_count i)) [
  | inl lt ↦ course_row_is i t c h ∙ row_same (λ s. room_at c s t) (λ s. room_at c s u) c (slot_count i) (λ s less. same c s lt less) ∙ sym (course_row_is i u c k)
  | inr past ↦ none_past (λ l. l.course) (course_count i) c t (courses_fit i t h) past ∙ sym (none_past (λ l. l.course) (course_count i) c u (courses_fit i u k) past)
])
