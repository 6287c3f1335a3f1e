-- Bringing a draft that is not stale up to date: its undo record is unchanged.
use Rattle.std.proofs.Common.{◌≡◌, ℕ, Bool, true, not, ◌==◌, List, [], ◌∷◌, ◌++◌, map, Option, Some, None, Result, Ok, refl, ◌∙◌, sym, ap, ap₂, subst}
use Rattle.std.specs.List.{AllByRecursion as Each}
use Rattle.std.proofs.lemmas.Bool.{eq-eqb, or_left, or_right}
use Rattle.ctt_problem.specs.Lists.{has}
use Rattle.ctt_problem.specs.Problem.{Problem, course_count, slot_count}
use Rattle.ctt_problem.specs.declared.placed.Placed.{Placed}
use Rattle.ctt_problem.proofs.TimetableLemmas.{Each-append, Each-map}
use Rattle.ctt_rules.specs.Hard.{Lawful}
use Rattle.ctt_rules.proofs.ListLemmas.{Each-filter}
use Rattle.ctt_board.specs.Changes.{cell, room_at, apply_all, ChangesFit}
use Rattle.ctt_board.specs.declared.cell.Cell.{Cell}
use Rattle.ctt_board.proofs.SameLemmas.{room_by_course_row}
use Rattle.ctt_edits.specs.Calls.{cells_of_call, cells_if, edit_courses, reads_course}
use Rattle.ctt_edits.specs.Edits.{edit_fault, change}
use Rattle.ctt_edits.specs.RowSets.{RowSet}
use Rattle.ctt_edits.specs.declared.call.Call.{Call}
use Rattle.ctt_edits.specs.declared.call.Call.TheVariants.{Look as Looks, Edit as Edits}
use Rattle.ctt_edits.specs.declared.edit.Edit.{Edit}
use Rattle.ctt_edits.specs.declared.edit.Edit.TheVariants.{Place, Move, Swap, Reroom, Drop}
use Rattle.ctt_edits.specs.declared.fault.EditFault.{EditFault}
use Rattle.ctt_draft.specs.Drafts.{calls_of, after_call, made, changes, all_read_course, stale}
use Rattle.ctt_draft.specs.DraftValues.{DraftValue, IsDraft, refreshed}
use Rattle.ctt_draft.specs.DraftLaws.{SameOn}
use Rattle.ctt_draft.specs.Undo.{is_cell_of, first_named, found_in, all_cells, undo_of, put_back, UndoValue}
use Rattle.ctt_draft.specs.declared.asked.Asked.{Asked}
use Rattle.ctt_draft.proofs.DraftSteps.{back_to, rebased}
use Rattle.ctt_draft.proofs.FrameLemmas.{agree_read, draft_frame, settling_fits}

-- an edit reads the course of each cell that it changes
reads_own : (c : ℕ) (more : List ℕ) → has c (c ∷ more) ≡ true
reads_own c more = or_left (c == c) (has c more) (eq-eqb c c refl)

edit_reads : (t : List Placed) (e : Edit) → Each (λ (x : Cell). has x.course (edit_courses e) ≡ true) (change t e)
edit_reads t (Place c s r) = (reads_own c [], tt)
edit_reads t (Move c s s2 r) = (reads_own c [], (reads_own c [], tt))
edit_reads t (Swap c s d s2) =
    let first : has c (c ∷ d ∷ []) ≡ true = reads_own c (d ∷ []) in
    let second : has d (c ∷ d ∷ []) ≡ true = or_right (c == d) (has d (d ∷ [])) (reads_own d []) in
    (first, (second, (first, (second, tt))))
edit_reads t (Reroom c s r) = (reads_own c [], (reads_own c [], tt))
edit_reads t (Drop c s) = (reads_own c [], tt)

reads_if : (i : Problem) (t : List Placed) (e : Edit) (o : Option EditFault) → Each (λ (x : Cell). has x.course (edit_courses e) ≡ true) (cells_if o (change t e))
reads_if i t e None = edit_reads t e
reads_if i t e (Some fault) = tt

call_reads : (i : Problem) (t : List Placed) (call : Call) → Each (λ (x : Cell). reads_course i call x.course ≡ true) (cells_of_call i t call)
call_reads i t (Looks look) = tt
call_reads i t (Edits e) = reads_if i t e (edit_fault i t e)

made_cells : (cells : List Cell) (rest : List (List Cell)) → all_cells (made cells ++ rest) ≡ cells ++ all_cells rest
made_cells [] rest = refl
made_cells (x ∷ xs) rest = refl

-- a draft reads the course of each cell that it changes
named_read : (i : Problem) (p : ℕ → Bool) (calls : List Call) (t : List Placed) → ((c : ℕ) → all_read_course i calls c ≡ true → p c ≡ true) → Each (λ (x : Cell). p x.course ≡ true) (all_cells (changes i t calls))
named_read i p [] t h = tt
named_read i p (call ∷ calls) t h =
    rw (made_cells (cells_of_call i t call) (changes i (after_call i t call) calls))
    (Each-append (λ (x : Cell). p x.course ≡ true) (cells_of_call i t call) (all_cells (changes i (after_call i t call) calls))
    (Each-map (λ (x : Cell). reads_course i call x.course ≡ true) (λ (x : Cell). p x.course ≡ true) (λ x y. h x.course (or_left (reads_course i call x.course) (all_read_course i calls x.course) y)) (cells_of_call i t call) (call_reads i t call))
    (named_read i p calls (after_call i t call) (λ c y. h c (or_right (reads_course i call c) (all_read_course i calls c) y))))

-- cells in which two timetables agree are recorded with the same rooms
abbrev HasAlike : List Placed → List Placed → Cell → Type 0
HasAlike t u x = room_at x.course x.slot t ≡ room_at x.course x.slot u

first_alike : (t u : List Placed) (cells : List Cell) → Each (HasAlike t u) cells → Each (HasAlike t u) (first_named cells)
first_alike t u [] h = tt
first_alike t u (x ∷ xs) h = (h.0, Each-filter (HasAlike t u) (λ y. not (is_cell_of x.course x.slot y)) (first_named xs) (first_alike t u xs h.1))

found_alike : (t u : List Placed) (cells : List Cell) → Each (HasAlike t u) cells → map (found_in t) cells ≡ map (found_in u) cells
found_alike t u [] h = refl
found_alike t u (x ∷ xs) h = ap₂ (λ r rest. cell x.course x.slot r ∷ rest) h.0 (found_alike t u xs h.1)

undo_same : (i : Problem) (base now : List Placed) (calls : List Call) → Lawful i base → Lawful i now → stale i base now calls ≡ None → undo_of base (changes i base calls) ≡ undo_of now (changes i base calls)
undo_same i base now calls h k fresh =
    let cells : List Cell = all_cells (changes i base calls) in
    let on = agree_read i base now calls h k fresh in
    let alike : Each (HasAlike base now) cells =
    Each-map (λ (x : Cell). all_read_course i calls x.course ≡ true) (HasAlike base now) (λ x y. room_by_course_row base now x.course x.slot (sym (on.courses x.course y))) cells (named_read i (all_read_course i calls) calls base (λ c y. y)) in
    found_alike base now (first_named cells) (first_alike base now cells alike)

-- a draft that is not stale on the timetable now, where its changes are made
renewed : (i k l : Problem) (base here now next : List Placed) (asked : List Asked) (old : List (List Cell)) (undo : UndoValue) (rows : RowSet) → IsDraft i k base here asked old undo rows → Lawful i now → stale i base now (calls_of asked) ≡ None → l ≡ i → next ≡ apply_all old now → IsDraft i l now next asked old undo rows
renewed i k l base here now next asked old undo rows d lawful fresh of is =
    let same : SameOn i base now (calls_of asked) = draft_frame i base now (calls_of asked) d.lawful_base lawful d.is_told.fit fresh in
    record {
      lawful_base = lawful;
      present_of = of;
      is_told = record { fit = d.is_told.fit; told = d.is_told.told ∙ sym same.replies_same };
      present_is = is ∙ ap (λ xs. apply_all xs now) d.made_is ∙ sym same.left;
      made_is = d.made_is ∙ sym same.changes_same;
      undo_is = d.undo_is ∙ ap (λ cells. record { courses = course_count i; slots = slot_count i; cells = cells }) (undo_same i base now (calls_of asked) d.lawful_base lawful fresh ∙ ap (undo_of now) (sym same.changes_same));
      courses_are = d.courses_are;
      slots_are = d.slots_are;
    }

-- the same by the draft's value v
module _ (i k : Problem) (here : List Placed) (asked : List Asked) (old : List (List Cell)) (undo : UndoValue) (rows : RowSet) (v : DraftValue) (d : IsDraft i k (put_back i undo.cells here) here asked old undo rows) (e : ◌≡◌ {A = DraftValue} (record { problem = i; base = put_back i undo.cells here; asked = asked }) v) (now : List Placed) where
  -- its changes fit there
  pub changes_fit_now : (j : Problem) → Lawful j now → j ≡ v.problem → None ≡ stale v.problem v.base now (calls_of v.asked) → ChangesFit j old now
  changes_fit_now j lawful same fresh =
      subst (λ (w : DraftValue). j ≡ w.problem → None ≡ stale w.problem w.base now (calls_of w.asked) → ChangesFit j old now) e
      (λ same fresh. rw (same, d.made_is) (settling_fits i (put_back i undo.cells here) now (calls_of asked) d.lawful_base (subst (λ p. Lawful p now) same lawful) d.is_told.fit (sym fresh))) same fresh

  pub refreshed_draft : (j l : Problem) (next : List Placed) → Lawful j now → j ≡ v.problem → None ≡ stale v.problem v.base now (calls_of v.asked) → l ≡ j → next ≡ apply_all old now →
      IsDraft i l (put_back i undo.cells next) next asked old undo rows × (◌≡◌ {A = DraftValue} (record { problem = i; base = put_back i undo.cells next; asked = asked }) (refreshed v now None))
  refreshed_draft j l next lawful same fresh of is =
      subst (λ (w : DraftValue). j ≡ w.problem → None ≡ stale w.problem w.base now (calls_of w.asked) → IsDraft i l (put_back i undo.cells next) next asked old undo rows × (◌≡◌ {A = DraftValue} (record { problem = i; base = put_back i undo.cells next; asked = asked }) (refreshed w now None))) e
      (λ same fresh.
      let d' : IsDraft i l now next asked old undo rows = renewed i k l (put_back i undo.cells here) here now next asked old undo rows d (subst (λ p. Lawful p now) same lawful) (sym fresh) (of ∙ same) is in
      (rebased i l now next asked old undo rows d', ap (λ b. record { problem = i; base = b; asked = asked }) (back_to i l now next asked old undo rows d')))
      same fresh

pub ok_of : {A E : Type 0} (x y : A) → ◌≡◌ {A = Result A E} (Ok x) (Ok y) → x ≡ y
ok_of x y e = cc
