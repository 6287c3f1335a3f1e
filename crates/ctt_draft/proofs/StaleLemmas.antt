-- The stale row, found from what a draft stores.
use Rattle.std.proofs.Common.{◌≡◌, ℕ, List, Option, Some, None, ◌∙◌, sym, ap, subst}
use Rattle.std.specs.List.{find}
use Rattle.std.specs.Option.{option_map}
use Rattle.ctt_problem.specs.Lists.{below}
use Rattle.ctt_edits.specs.RowSets.{RowSet, has_course, has_slot}
use Rattle.ctt_problem.specs.Problem.{Problem, course_count, slot_count}
use Rattle.ctt_problem.specs.declared.placed.Placed.{Placed}
use Rattle.ctt_rules.specs.Hard.{Lawful}
use Rattle.ctt_board.specs.declared.cell.Cell.{Cell}
use Rattle.ctt_edits.specs.declared.row.Row.TheVariants.{Course as CourseRow, Slot as SlotRow}
use Rattle.ctt_edits.proofs.MarkedRows.{below_same}
use Rattle.ctt_draft.specs.Drafts.{calls_of, all_read_course, all_read_slot, differs, stale}
use Rattle.ctt_draft.specs.DraftValues.{DraftValue, IsDraft, Settles}
use Rattle.ctt_draft.specs.DraftLaws.{DraftFrame, SettlingFits}
use Rattle.ctt_draft.specs.Undo.{put_back, UndoValue}
use Rattle.ctt_draft.specs.Comparisons.{Compared, base_of}
use Rattle.ctt_draft.specs.declared.asked.Asked.{Asked}
use Rattle.ctt_draft.proofs.FirstLemmas.{row_found, row_behind}

module _ (i k : Problem) (here : List Placed) (asked : List Asked) (old : List (List Cell)) (undo : UndoValue) (rows : RowSet) (v : DraftValue) (d : IsDraft i k (put_back i undo.cells here) here asked old undo rows) (e : ◌≡◌ {A = DraftValue} (record { problem = i; base = put_back i undo.cells here; asked = asked }) v) (now : List Placed) where
  abbrev base : List Placed
  base = put_back i undo.cells here

  courses_read : below (has_course rows) (course_count i) ≡ below (all_read_course i (calls_of asked)) (course_count i)
  courses_read = below_same (has_course rows) (all_read_course i (calls_of asked)) (course_count i) d.courses_are

  slots_read : below (has_slot rows) (slot_count i) ≡ below (all_read_slot (calls_of asked)) (slot_count i)
  slots_read = below_same (has_slot rows) (all_read_slot (calls_of asked)) (slot_count i) d.slots_are

  -- the comparison is the one of the draft and this timetable
  abbrev IsBeside : Compared → Type 0
  IsBeside w = ◌≡◌ {A = Compared} w (record { problem = i; present = here; undo = undo.cells; sheet = now })

  -- the first course whose row was read and differs; the same for slots
  abbrev first_course_in : Compared → Option ℕ
  first_course_in w = find (λ c. differs (base_of w) w.sheet (CourseRow c)) (below (has_course rows) (course_count w.problem))

  abbrev first_slot_in : Compared → Option ℕ
  first_slot_in w = find (λ s. differs (base_of w) w.sheet (SlotRow s)) (below (has_slot rows) (slot_count w.problem))

  -- a course that is found is the stale row
  pub stale_course : (w : Compared) → IsBeside w → (n : ℕ) (found : Option ℕ) → found ≡ first_course_in w → found ≡ Some n → Some (CourseRow n) ≡ stale v.problem v.base now (calls_of v.asked)
  stale_course w beside n found is some =
      subst (λ (w : DraftValue). Some (CourseRow n) ≡ stale w.problem w.base now (calls_of w.asked)) e
      (row_found (differs base now) CourseRow SlotRow (below (all_read_course i (calls_of asked)) (course_count i)) (below (all_read_slot (calls_of asked)) (slot_count i)) n
      (sym some ∙ is ∙ ap first_course_in beside ∙ ap (find (λ c. differs base now (CourseRow c))) courses_read))

  -- if there is none, it is the slot that is found, if any
  pub stale_slot : (w : Compared) → IsBeside w → (found slot : Option ℕ) → found ≡ first_course_in w → found ≡ None → slot ≡ first_slot_in w → option_map SlotRow slot ≡ stale v.problem v.base now (calls_of v.asked)
  stale_slot w beside found slot is none is_slot =
      subst (λ (w : DraftValue). option_map SlotRow slot ≡ stale w.problem w.base now (calls_of w.asked)) e
      (row_behind (differs base now) CourseRow SlotRow (below (all_read_course i (calls_of asked)) (course_count i)) (below (all_read_slot (calls_of asked)) (slot_count i)) slot
      (sym none ∙ is ∙ ap first_course_in beside ∙ ap (find (λ c. differs base now (CourseRow c))) courses_read)
      (is_slot ∙ ap first_slot_in beside ∙ ap (find (λ s. differs base now (SlotRow s))) slots_read))

  -- if no row is stale, the draft can be settled
  pub settles : (l : Problem) → DraftFrame → SettlingFits → Lawful l now → l ≡ v.problem → None ≡ stale v.problem v.base now (calls_of v.asked) → Settles v now
  settles l frame fitting lawful_now of none =
      subst (λ (w : DraftValue). None ≡ stale w.problem w.base now (calls_of w.asked) → l ≡ w.problem → Settles w now) e
      (λ fresh same. let b : Lawful i base = d.lawful_base in let n : Lawful i now = subst (λ p. Lawful p now) same lawful_now in
      record { fit = fitting i base now (calls_of asked) b n d.is_told.fit (sym fresh); same = frame i base now (calls_of asked) b n d.is_told.fit (sym fresh) })
      none of
