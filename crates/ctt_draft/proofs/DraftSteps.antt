-- A draft with one more call.
use Rattle.std.proofs.Common.{◌≡◌, None, Bool, false, ◌||◌, List, [], ◌∷◌, ◌++◌, append-nil, refl, ◌∙◌, sym, ap, ap₂, subst, inl, inr}
use Rattle.std.specs.List.{list_any, AllByRecursion as Each}
use Rattle.std.proofs.lemmas.Bool.{cases_Bool}
use Rattle.std.proofs.lemmas.List.{map-append, append-nil}
use Rattle.ctt_problem.specs.Problem.{Problem, course_count, slot_count}
use Rattle.ctt_problem.specs.declared.placed.Placed.{Placed}
use Rattle.ctt_board.specs.Changes.{apply, ChangeFits, apply_all, ChangesFit}
use Rattle.ctt_board.specs.declared.cell.Cell.{Cell}
use Rattle.ctt_edits.specs.Calls.{CallFits, reply, cells_of_call, cells_if, reads_course, reads_slot}
use Rattle.ctt_edits.specs.RowSets.{RowSet, is_in, AddsReads}
use Rattle.ctt_edits.specs.declared.row.Row.{Row}
use Rattle.ctt_edits.specs.declared.row.Row.TheVariants.{Course as CourseRow, Slot as SlotRow}
use Rattle.ctt_edits.specs.Edits.{EditFits, edit_fault, change}
use Rattle.ctt_edits.specs.Looks.{told_or}
use Rattle.ctt_edits.specs.declared.call.Call.{Call}
use Rattle.ctt_edits.specs.declared.call.Call.TheVariants.{Edit as Edits}
use Rattle.ctt_edits.specs.declared.edit.Edit.{Edit}
use Rattle.ctt_edits.specs.declared.edit.Edit.TheVariants.{Place, Move, Swap, Reroom, Drop}
use Rattle.ctt_edits.specs.declared.reply.Reply.{Reply}
use Rattle.ctt_edits.specs.declared.reply.Reply.TheVariants.{Done}
use Rattle.ctt_edits.proofs.EditLemmas.{edits_fit}
use Rattle.ctt_rules.specs.Hard.{Lawful}
use Rattle.ctt_draft.specs.Drafts.{calls_of, after_call, replies, whole, made, changes, all_read_course, all_read_slot}
use Rattle.ctt_draft.specs.DraftValues.{DraftValue, present, asked_more, IsTold, IsDraft}
use Rattle.ctt_draft.specs.Undo.{undo_of, put_back, Records, AreWithin, UndoValue, all_noted}
use Rattle.ctt_draft.specs.declared.asked.Asked.{Asked}
use Rattle.ctt_draft.proofs.CallRuns.{replies-push, whole-push, changes-push, made_edit, whole_is, changes_fit}
use Rattle.ctt_draft.proofs.UndoLemmas.{undo_made, undo_records, undo_puts_back}

Each-push : {X : Type 0} (P : X → Type 0) (xs : List X) (x : X) → Each P xs → P x → Each P (xs ++ x ∷ [])
Each-push P [] x h p = (p, tt)
Each-push P (y ∷ ys) x h p = (h.0, Each-push P ys x h.1 p)

any-push : {X : Type 0} (p : X → Bool) (xs : List X) (x : X) → list_any p (xs ++ x ∷ []) ≡ (list_any p xs || p x)
any-push p [] x = elim (cases_Bool (p x)) [ inl y ↦ rw y refl | inr n ↦ rw n refl ]
any-push p (y ∷ ys) x = elim (cases_Bool (p y)) [ inl b ↦ rw b refl | inr b ↦ rw b (any-push p ys x) ]

pub calls-push : (asked : List Asked) (a : Asked) → calls_of (asked ++ a ∷ []) ≡ calls_of asked ++ a.call ∷ []
calls-push asked a = map-append (λ (x : Asked). x.call) asked (a ∷ [])

pub told_more : (i : Problem) (base : List Placed) (asked : List Asked) (a : Asked) → IsTold i base asked → CallFits i a.call → a.reply ≡ reply i (whole i base (calls_of asked)) a.call → IsTold i base (asked ++ a ∷ [])
told_more i base asked a d f told = record {
  fit = subst (Each (CallFits i)) (sym (calls-push asked a)) (Each-push (CallFits i) (calls_of asked) a.call d.fit f);
  told = map-append (λ (x : Asked). x.reply) asked (a ∷ [])
      ∙ ap₂ (λ rs r. rs ++ r ∷ []) d.told told
      ∙ sym (replies-push i base (calls_of asked) a.call)
      ∙ ap (replies i base) (sym (calls-push asked a));
}

-- the undo record after an edit's cells are recorded
abbrev pub more_noted : List Placed → List Cell → UndoValue → UndoValue
more_noted t cells undo = record { courses = undo.courses; slots = undo.slots; cells = all_noted t cells undo.cells }

-- the cells of an edit are within the instance
pub change_within : (i : Problem) (t : List Placed) (x : Edit) → EditFits i x → AreWithin (course_count i) (slot_count i) (change t x)
change_within i t (Place c s r) f = ((f.0, f.1), tt)
change_within i t (Move c s s2 r) f = ((f.0, f.1), ((f.0, f.2), tt))
change_within i t (Swap c s d s2) f = ((f.0, f.1), ((f.2, f.3), ((f.0, f.3), ((f.2, f.1), tt))))
change_within i t (Reroom c s r) f = ((f.0, f.1), ((f.0, f.1), tt))
change_within i t (Drop c s) f = ((f.0, f.1), tt)

-- a draft's undo record leads back to its snapshot
module _ (i k : Problem) (base here : List Placed) (asked : List Asked) (old : List (List Cell)) (undo : UndoValue) (rows : RowSet) (d : IsDraft i k base here asked old undo rows) where
  fit_there : ChangesFit i (changes i base (calls_of asked)) base
  fit_there = changes_fit i base (calls_of asked) d.lawful_base d.is_told.fit

  left : here ≡ apply_all (changes i base (calls_of asked)) base
  left = d.present_is ∙ whole_is i (calls_of asked) base

  recorded_is : undo.cells ≡ undo_of base (changes i base (calls_of asked))
  recorded_is = ap (λ (u : UndoValue). u.cells) d.undo_is

  pub records_base : Records base here undo.cells
  records_base = rw (recorded_is, left) (undo_records i (changes i base (calls_of asked)) base fit_there)

  pub back_to : put_back i undo.cells here ≡ base
  back_to = ap₂ (λ cells t. put_back i cells t) recorded_is left ∙ undo_puts_back i base (changes i base (calls_of asked)) d.lawful_base.timetable fit_there

  pub rebased : IsDraft i k (put_back i undo.cells here) here asked old undo rows
  rebased = subst (λ b. IsDraft i k b here asked old undo rows) (sym back_to) d

  -- the cells of one more call
  noted_here : (call : Call) → all_noted here (cells_of_call i here call) undo.cells ≡ undo_of base (changes i base (calls_of asked ++ call ∷ []))
  noted_here call =
      ap₂ (λ t cells. all_noted t (cells_of_call i t call) cells) d.present_is recorded_is
      ∙ ap (λ t. all_noted t (cells_of_call i (whole i base (calls_of asked)) call) (undo_of base (changes i base (calls_of asked)))) (whole_is i (calls_of asked) base)
      ∙ undo_made i (changes i base (calls_of asked)) base (cells_of_call i (whole i base (calls_of asked)) call) fit_there
      ∙ ap (undo_of base) (sym (changes-push i base (calls_of asked) call))

  pub undo_more_is : (call : Call) (undo' : UndoValue) → undo' ≡ more_noted here (cells_of_call i here call) undo → undo' ≡ record { courses = course_count i; slots = slot_count i; cells = undo_of base (changes i base (calls_of asked ++ call ∷ [])) }
  undo_more_is call undo' is =
      is
      ∙ ap₂ (λ (u : UndoValue) cells. record { courses = u.courses; slots = u.slots; cells = cells }) d.undo_is (noted_here call)

-- the invariant holds after one more call: the call and its change are stored, its cells are
-- recorded, and its rows marked
pub draft_more : (i k l : Problem) (base here next : List Placed) (asked longer : List Asked) (a : Asked) (old new : List (List Cell)) (undo undo' : UndoValue) (rows rows' : RowSet) → IsDraft i k base here asked old undo rows →
    longer ≡ asked ++ a ∷ [] → CallFits i a.call → a.reply ≡ reply i here a.call → l ≡ i → next ≡ after_call i here a.call → new ≡ old ++ made (cells_of_call i here a.call) →
    undo' ≡ more_noted here (cells_of_call i here a.call) undo → AddsReads i a.call rows rows' → IsDraft i l base next longer new undo' rows'
draft_more i k l base here next asked longer a old new undo undo' rows rows' d same f told of is more noted adds =
    let calls : calls_of longer ≡ calls_of asked ++ a.call ∷ [] = ap calls_of same ∙ calls-push asked a in
    record {
      lawful_base = d.lawful_base;
      present_of = of;
      is_told = subst (IsTold i base) (sym same) (told_more i base asked a d.is_told f (told ∙ ap (λ t. reply i t a.call) d.present_is));
      present_is = is ∙ ap (λ t. after_call i t a.call) d.present_is ∙ sym (whole-push i base (calls_of asked) a.call) ∙ ap (whole i base) (sym calls);
      made_is = more ∙ ap₂ (λ xs t. xs ++ made (cells_of_call i t a.call)) d.made_is d.present_is ∙ sym (changes-push i base (calls_of asked) a.call) ∙ ap (changes i base) (sym calls);
      undo_is = undo_more_is i k base here asked old undo rows d a.call undo' noted ∙ ap (λ xs. record { courses = course_count i; slots = slot_count i; cells = undo_of base (changes i base xs) }) (sym calls);
      courses_are = λ n lt. adds.courses n lt ∙ ap (λ b. b || reads_course i a.call n) (d.courses_are n lt) ∙ sym (any-push (λ call. reads_course i call n) (calls_of asked) a.call) ∙ ap (λ xs. all_read_course i xs n) (sym calls);
      slots_are = λ n lt. adds.slots n lt ∙ ap (λ b. b || reads_slot a.call n) (d.slots_are n lt) ∙ sym (any-push (λ call. reads_slot call n) (calls_of asked) a.call) ∙ ap (λ xs. all_read_slot xs n) (sym calls);
    }

-- the invariant of a draft without calls
draft_open : (i k : Problem) (base here : List Placed) (asked : List Asked) (old : List (List Cell)) (undo : UndoValue) (rows : RowSet) → Lawful i base → k ≡ i → here ≡ base → asked ≡ [] → old ≡ [] →
    undo ≡ record { courses = course_count i; slots = slot_count i; cells = [] } → ((row : Row) → is_in rows row ≡ false) → IsDraft i k base here asked old undo rows
draft_open i k base here asked old undo rows lawful f same none no_changes no_cells empty = rw (none, no_changes) record {
  lawful_base = lawful;
  present_of = f;
  is_told = record { fit = tt; told = refl };
  present_is = same;
  made_is = refl;
  undo_is = no_cells;
  courses_are = λ n lt. empty (CourseRow n);
  slots_are = λ n lt. empty (SlotRow n);
}

-- a draft is opened on the timetable of a sheet
module _ (i j k : Problem) (base here : List Placed) (asked : List Asked) (old : List (List Cell)) (undo : UndoValue) (rows : RowSet) (lawful : Lawful j base) (e : i ≡ j) (f : k ≡ j) (same : here ≡ base) (none : asked ≡ []) (no_changes : old ≡ [])
    (no_cells : undo ≡ record { courses = course_count i; slots = slot_count i; cells = [] }) (empty : (row : Row) → is_in rows row ≡ false) where
  opened : IsDraft i k base here asked old undo rows
  opened = draft_open i k base here asked old undo rows (subst (λ p. Lawful p base) (sym e) lawful) (f ∙ sym e) same none no_changes no_cells empty

  pub draft_opened : IsDraft i k (put_back i undo.cells here) here asked old undo rows
  draft_opened = rebased i k base here asked old undo rows opened

  pub opened_on : put_back i undo.cells here ≡ base
  opened_on = back_to i k base here asked old undo rows opened

-- the steps of a draft, by its value v
module _ (i k : Problem) (base here : List Placed) (asked : List Asked) (old : List (List Cell)) (undo : UndoValue) (rows : RowSet) (v : DraftValue) (d : IsDraft i k base here asked old undo rows) (e : ◌≡◌ {A = DraftValue} (record { problem = i; base = base; asked = asked }) v) where
  -- a call that changes nothing
  pub draft_kept : (longer : List Asked) (rows' : RowSet) (call : Call) (told : Reply) → longer ≡ asked ++ record { call = call; reply = told } ∷ [] → CallFits v.problem call → told ≡ reply v.problem (present v) call → cells_of_call v.problem (present v) call ≡ [] →
      AddsReads i call rows rows' → IsDraft i k base here longer old undo rows'
  draft_kept longer rows' call told same f t still adds =
      let f' : CallFits i call = subst (λ (w : DraftValue). CallFits w.problem call) (sym e) f in
      let t' : told ≡ reply i here call = subst (λ (w : DraftValue). told ≡ reply w.problem (present w) call) (sym e) t ∙ ap (λ u. reply i u call) (sym d.present_is) in
      let still' : cells_of_call i here call ≡ [] = ap (λ u. cells_of_call i u call) d.present_is ∙ subst (λ (w : DraftValue). cells_of_call w.problem (present w) call ≡ []) (sym e) still in
      draft_more i k k base here here asked longer (record { call = call; reply = told }) old old undo undo rows rows' d same f' t' d.present_of
      (ap (λ cells. apply cells here) (sym still')) (sym (ap (λ cells. old ++ made cells) still' ∙ append-nil old)) (ap (λ cells. more_noted here cells undo) (sym still')) adds

  -- the change of an edit fits the present timetable
  pub edit_fits_here : (x : Edit) (cells : List Cell) → Lawful k here → EditFits v.problem x → edit_fault v.problem (present v) x ≡ None → cells ≡ change (present v) x → ChangeFits k cells here
  edit_fits_here x cells h f free same =
      let f' : EditFits k x = subst (λ w. EditFits w x) (sym d.present_of) (subst (λ (w : DraftValue). EditFits w.problem x) (sym e) f) in
      let free' : edit_fault k here x ≡ None = ap₂ (λ p u. edit_fault p u x) d.present_of d.present_is ∙ subst (λ (w : DraftValue). edit_fault w.problem (present w) x ≡ None) (sym e) free in
      let same' : cells ≡ change here x = subst (λ (w : DraftValue). cells ≡ change (present w) x) (sym e) same ∙ ap (λ u. change u x) (sym d.present_is) in
      subst (λ cs. ChangeFits k cs here) (sym same') (edits_fit k here x h f' free')

  -- an edit that is made
  draft_made : (longer : List Asked) (rows' : RowSet) (x : Edit) (cells : List Cell) (l : Problem) (next : List Placed) (new : List (List Cell)) (undo' : UndoValue) → longer ≡ asked ++ record { call = Edits x; reply = Done } ∷ [] → EditFits v.problem x → edit_fault v.problem (present v) x ≡ None → cells ≡ change (present v) x →
      l ≡ k → next ≡ apply cells here → new ≡ old ++ cells ∷ [] →
      undo' ≡ more_noted here cells undo → AddsReads i (Edits x) rows rows' → IsDraft i l base next longer new undo' rows'
  draft_made longer rows' x cells l next new undo' same f free cells_are of is more noted adds =
      let f' : EditFits i x = subst (λ (w : DraftValue). EditFits w.problem x) (sym e) f in
      let free' : edit_fault i here x ≡ None = ap (λ u. edit_fault i u x) d.present_is ∙ subst (λ (w : DraftValue). edit_fault w.problem (present w) x ≡ None) (sym e) free in
      let cells' : cells ≡ cells_of_call i here (Edits x) = subst (λ (w : DraftValue). cells ≡ change (present w) x) (sym e) cells_are ∙ ap (λ u. change u x) (sym d.present_is) ∙ sym (ap (λ o. cells_if o (change here x)) free') in
      let one : made (cells_of_call i here (Edits x)) ≡ cells ∷ [] = ap (λ o. made (cells_if o (change here x))) free' ∙ made_edit here x ∙ ap (λ cs. cs ∷ []) (ap (λ o. cells_if o (change here x)) (sym free') ∙ sym cells') in
      draft_more i k l base here next asked longer (record { call = Edits x; reply = Done }) old new undo undo' rows rows' d same f' (sym (ap (λ o. told_or o Done) free')) (of ∙ d.present_of)
      (is ∙ ap (λ cs. apply cs here) cells') (more ∙ ap (λ xs. old ++ xs) (sym one)) (noted ∙ ap (λ cs. more_noted here cs undo) cells') adds

  -- the draft's value after that edit
  pub made_draft : (longer : List Asked) (rows' : RowSet) (x : Edit) (cells : List Cell) (l : Problem) (next : List Placed) (new : List (List Cell)) (undo' : UndoValue) → longer ≡ asked ++ record { call = Edits x; reply = Done } ∷ [] → EditFits v.problem x → edit_fault v.problem (present v) x ≡ None → cells ≡ change (present v) x →
      l ≡ k → next ≡ apply cells here → new ≡ old ++ cells ∷ [] →
      undo' ≡ more_noted here cells undo → AddsReads i (Edits x) rows rows' →
      IsDraft i l (put_back i undo'.cells next) next longer new undo' rows' × (◌≡◌ {A = DraftValue} (record { problem = i; base = put_back i undo'.cells next; asked = longer }) (asked_more v (Edits x) Done))
  made_draft longer rows' x cells l next new undo' same f free cells_are of is more noted adds =
      let d' : IsDraft i l base next longer new undo' rows' = draft_made longer rows' x cells l next new undo' same f free cells_are of is more noted adds in (
        rebased i l base next longer new undo' rows' d',
        ap₂ (λ b xs. record { problem = i; base = b; asked = xs }) (back_to i l base next longer new undo' rows' d') same ∙ ap (λ w. asked_more w (Edits x) Done) e,
      )

  -- the cells of an edit are within the record's table
  pub edit_within : (x : Edit) (cells : List Cell) → EditFits v.problem x → cells ≡ change (present v) x → AreWithin undo.courses undo.slots cells
  edit_within x cells f same =
      let f' : EditFits i x = subst (λ (w : DraftValue). EditFits w.problem x) (sym e) f in
      let same' : cells ≡ change here x = subst (λ (w : DraftValue). cells ≡ change (present w) x) (sym e) same ∙ ap (λ u. change u x) (sym d.present_is) in
      subst (λ (u : UndoValue). AreWithin u.courses u.slots cells) (sym d.undo_is) (subst (λ cs. AreWithin (course_count i) (slot_count i) cs) (sym same') (change_within i here x f'))
