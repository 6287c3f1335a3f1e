-- The inverses of accepted edits, and the last of them that is not undone.
use Rattle.std.proofs.Common.{◌≡◌, ◌∙◌, ℕ, zero, suc, ◌+◌, ◌-◌, ◌<◌, ◌≤◌, Bool, true, false, cond, List, [], ◌∷◌, ◌++◌, length, take, drop, get_or, Option, Some, None, arith, refl, sym, ap, ap₂, subst}
use Rattle.std.specs.Prelude.{IfSome, IsSome, slice_get}
use Rattle.std.specs.List.{AllByRecursion as Each}
use Rattle.std.specs.Option.{option_map, option_to_list}
use Rattle.ctt_problem.specs.Problem.{Problem}
use Rattle.ctt_problem.specs.declared.placed.Placed.{Placed}
use Rattle.ctt_rules.specs.Hard.{Lawful}
use Rattle.ctt_board.specs.Changes.{apply, apply_all, ChangesFit, room_at, room_by}
use Rattle.ctt_board.specs.declared.cell.Cell.{Cell}
use Rattle.ctt_board.proofs.RoomLemmas.{rooms_after}
use Rattle.ctt_edits.specs.Calls.{CallFits, cells_if, reply}
use Rattle.ctt_edits.specs.Edits.{EditFits, edit_fault, change}
use Rattle.ctt_edits.specs.Looks.{told_or}
use Rattle.ctt_edits.specs.declared.call.Call.{Call}
use Rattle.ctt_edits.specs.declared.call.Call.TheVariants.{Look as Looks, Edit as Edits}
use Rattle.ctt_edits.specs.declared.edit.Edit.{Edit}
use Rattle.ctt_edits.specs.declared.edit.Edit.TheVariants.{Place, Move, Swap, Reroom, Drop}
use Rattle.ctt_edits.specs.declared.fault.EditFault.{EditFault}
use Rattle.ctt_edits.specs.declared.looks.Look.{Look}
use Rattle.ctt_edits.specs.declared.reply.Reply.{Reply}
use Rattle.ctt_edits.specs.declared.reply.Reply.TheVariants.{Done, Refused, Lectures, Costs, Price as Priced, Missing as AreMissing, Edits as AreCheapest, Slots as AreOffers}
use Rattle.ctt_edits.proofs.EditLemmas.{room_fits}
use Rattle.ctt_draft.specs.Drafts.{after_call, calls_of, changes, made, replies, replies_in}
use Rattle.ctt_draft.specs.DraftValues.{DraftValue, present}
use Rattle.ctt_draft.specs.Undo.{all_cells, undo_of}
use Rattle.ctt_draft.specs.Undoing.{done_by, done_edit, inverse, is_given, stack_after, stack_of, stacked, stacked_if, top}
use Rattle.ctt_draft.specs.declared.asked.Asked.{Asked}
use Rattle.ctt_draft.proofs.CallRuns.{apply_all-append, changes_fit, lawful_after_call, made_edit, whole_is}
use Rattle.ctt_draft.proofs.UndoLemmas.{room_back, undo_records}

-- the room after two lists of cells, one after the other
room_by-append : (xs ys : List Cell) (c s : ℕ) (o : Option ℕ) → room_by (xs ++ ys) c s o ≡ room_by ys c s (room_by xs c s o)
room_by-append [] ys c s o = refl
room_by-append (x ∷ xs) ys c s o = room_by-append xs ys c s (room_by (x ∷ []) c s o)

rooms_after_all : (i : Problem) (xs : List (List Cell)) (t : List Placed) (c s : ℕ) → ChangesFit i xs t → room_at c s (apply_all xs t) ≡ room_by (all_cells xs) c s (room_at c s t)
rooms_after_all i [] t c s fit = refl
rooms_after_all i (x ∷ xs) t c s fit =
    rooms_after_all i xs (apply x t) c s fit.1
    ∙ ap (room_by (all_cells xs) c s) (rooms_after x t fit.0.cells_fit c s)
    ∙ sym (room_by-append x (all_cells xs) c s (room_at c s t))

-- the room after one more change
pub one_change : (all : List (List Cell)) (k : ℕ) (x : List Cell) (c s : ℕ) (last new start : Option ℕ) → drop k all ≡ x ∷ drop (k + 1) all → new ≡ room_by x c s last → room_by (all_cells (drop k all)) c s last ≡ start
    → room_by (all_cells (drop (k + 1) all)) c s new ≡ start
one_change all k x c s last new start at is so_far =
    ap (room_by (all_cells (drop (k + 1) all)) c s) is
    ∙ sym (room_by-append x (all_cells (drop (k + 1) all)) c s last)
    ∙ ap (λ xs. room_by (all_cells xs) c s last) (sym at)
    ∙ so_far

-- the rest of a list from an element on
pub left_at : {X : Type 0} (xs : List X) (k : ℕ) (x : X) → k < length xs → x ≡ get_or xs k x → drop k xs ≡ x ∷ drop (k + 1) xs
left_at [] k x lt is = absurd (omega (arith, lt))
left_at (y ∷ ys) zero x lt is = ap (λ z. z ∷ ys) (sym is)
left_at (y ∷ ys) (suc k) x lt is = rw (behind k) (left_at ys k x (omega (arith, lt)) is)
  where
    behind : (k : ℕ) → suc k + 1 ≡ suc (k + 1)
    behind k = omega arith

-- if dropping m elements leaves some, the list is longer than m
has_more : {X : Type 0} (m : ℕ) (xs : List X) (x : X) (more : List X) → drop m xs ≡ x ∷ more → m < length xs
has_more zero [] x more h = cc
has_more zero (y ∷ ys) x more h = omega arith
has_more (suc m) [] x more h = cc
has_more (suc m) (y ∷ ys) x more h = (let rest = has_more m ys x more h in omega (arith, rest))

fit_take : (i : Problem) (n : ℕ) (xs : List (List Cell)) (t : List Placed) → ChangesFit i xs t → ChangesFit i (take n xs) t
fit_take i zero xs t fit = tt
fit_take i (suc n) [] t fit = tt
fit_take i (suc n) (x ∷ xs) t fit = (fit.0, fit_take i n xs (apply x t) fit.1)

-- the room that a course had in a slot after the first m changes
pub room_was : (d : DraftValue) → Lawful d.problem d.base → Each (CallFits d.problem) (calls_of d.asked) → (m c s : ℕ)
    → room_by (all_cells (take m (changes d.problem d.base (calls_of d.asked)))) c s (room_by (undo_of d.base (changes d.problem d.base (calls_of d.asked))) c s (room_at c s (present d)))
    ≡ room_at c s (apply_all (take m (changes d.problem d.base (calls_of d.asked))) d.base)
room_was d lawful fits m c s =
    let all : List (List Cell) = changes d.problem d.base (calls_of d.asked) in
    let fit : ChangesFit d.problem all d.base = changes_fit d.problem d.base (calls_of d.asked) lawful fits in
    let back : room_by (undo_of d.base all) c s (room_at c s (present d)) ≡ room_at c s d.base =
    ap (λ t. room_by (undo_of d.base all) c s (room_at c s t)) (whole_is d.problem (calls_of d.asked) d.base)
    ∙ room_back d.base (apply_all all d.base) (undo_of d.base all) c s (undo_records d.problem all d.base fit) in
    ap (room_by (all_cells (take m all)) c s) back
    ∙ sym (rooms_after_all d.problem (take m all) d.base c s (fit_take d.problem m all d.base fit))

-- the inverse of an edit that fits fits too
inverse_fits : (i : Problem) (t : List Placed) (e : Edit) → Lawful i t → EditFits i e → IfSome (inverse t e) (EditFits i)
inverse_fits i t (Place c s r) h f = (f.0, f.1)
inverse_fits i t (Move c s s2 r) h f = by (room_at c s t) refl
  where
    by : (o : Option ℕ) → room_at c s t ≡ o → IfSome (option_map (λ old. Move c s2 s old) o) (EditFits i)
    by None is = tt
    by (Some old) is = (f.0, f.2, f.1, room_fits i t c s old h is)
inverse_fits i t (Swap c s d s2) h f = (f.0, f.3, f.2, f.1)
inverse_fits i t (Reroom c s r) h f = by (room_at c s t) refl
  where
    by : (o : Option ℕ) → room_at c s t ≡ o → IfSome (option_map (λ old. Reroom c s old) o) (EditFits i)
    by None is = tt
    by (Some old) is = (f.0, f.1, room_fits i t c s old h is)
inverse_fits i t (Drop c s) h f = by (room_at c s t) refl
  where
    by : (o : Option ℕ) → room_at c s t ≡ o → IfSome (option_map (λ old. Place c s old) o) (EditFits i)
    by None is = tt
    by (Some old) is = (f.0, f.1, room_fits i t c s old h is)

Each-push : (P : Edit → Type 0) (xs : List Edit) (o : Option Edit) → Each P xs → IfSome o P → Each P (xs ++ option_to_list o)
Each-push P [] None h p = tt
Each-push P [] (Some x) h p = (p, tt)
Each-push P (y ∷ ys) o h p = (h.0, Each-push P ys o h.1 p)

Each-take : (P : Edit → Type 0) (n : ℕ) (xs : List Edit) → Each P xs → Each P (take n xs)
Each-take P zero xs h = tt
Each-take P (suc n) [] h = tt
Each-take P (suc n) (x ∷ xs) h = (h.0, Each-take P n xs h.1)

stacked_fits : (i : Problem) (e : Edit) (o : Option Edit) (stack : List Edit) → Each (EditFits i) stack → IfSome o (EditFits i) → Each (EditFits i) (stacked e o stack)
stacked_fits i e o stack h f = by (is_given e (top stack))
  where
    by : (b : Bool) → Each (EditFits i) (cond b (take (length stack - 1) stack) (stack ++ option_to_list o))
    by true = Each-take (EditFits i) (length stack - 1) stack h
    by false = Each-push (EditFits i) stack o h f

-- the prefix of a list and its rest, with the prefix one element longer
one_more : {X : Type 0} (m : ℕ) (xs : List X) (x : X) (more : List X) → drop m xs ≡ x ∷ more → (drop (suc m) xs ≡ more) × (take (suc m) xs ≡ take m xs ++ x ∷ [])
one_more zero [] x more h = cc
one_more zero (y ∷ ys) x more h = (let first : y ≡ x = cc in let rest : ys ≡ more = cc in (rest, ap (λ z. z ∷ []) first))
one_more (suc m) [] x more h = cc
one_more (suc m) (y ∷ ys) x more h = (let rest = one_more m ys x more h in (rest.0, ap (λ zs. y ∷ zs) rest.1))

-- the loop invariant: some calls are left; the earlier ones made the first m changes, and left this
-- stack of inverses
pub record IsUnstacking (i : Problem) (base : List Placed) (calls : List Call) (all : List (List Cell)) (m : ℕ) (stack : List Edit) (left : List Asked) : Type 0 where
  pub split : drop m all ≡ changes i (apply_all (take m all) base) (calls_of left)
  pub told : replies_in left ≡ replies i (apply_all (take m all) base) (calls_of left)
  pub same : stack_of i (apply_all (take m all) base) (calls_of left) stack ≡ stack_of i base calls []
  pub lawful : Lawful i (apply_all (take m all) base)
  pub fit : Each (CallFits i) (calls_of left)
  pub fits : Each (EditFits i) stack

pub starts : (i : Problem) (base : List Placed) (asked : List Asked) (all : List (List Cell)) → Lawful i base → Each (CallFits i) (calls_of asked) → replies_in asked ≡ replies i base (calls_of asked) → all ≡ changes i base (calls_of asked)
    → IsUnstacking i base (calls_of asked) all 0 [] asked
starts i base asked all lawful fit told is = record { split = is; told = told; same = refl; lawful = lawful; fit = fit; fits = tt }

-- an edit that was done has no fault
free_of : (o : Option EditFault) → Done ≡ told_or o Done → o ≡ None
free_of None h = refl
free_of (Some f) h = cc

heads : {X : Type 0} (x y : X) (xs ys : List X) → x ∷ xs ≡ y ∷ ys → x ≡ y
heads x y xs ys h = cc

tails : {X : Type 0} (x y : X) (xs ys : List X) → x ∷ xs ≡ y ∷ ys → xs ≡ ys
tails x y xs ys h = cc

module _ (i : Problem) (base : List Placed) (calls : List Call) (all : List (List Cell)) (m : ℕ) (stack : List Edit) (left : List Asked) where
  abbrev pub here : List Placed
  here = apply_all (take m all) base

  -- an accepted edit
  done_here : (e : Edit) (new : List Edit) → IsUnstacking i base calls all m stack (record { call = Edits e; reply = Done } ∷ left) → new ≡ stacked e (inverse here e) stack → IsUnstacking i base calls all (suc m) new left
  done_here e new h is =
      let free : edit_fault i here e ≡ None = free_of (edit_fault i here e) (heads Done (told_or (edit_fault i here e) Done) (replies_in left) (replies i (after_call i here (Edits e)) (calls_of left)) h.told) in
      let cells : cells_if (edit_fault i here e) (change here e) ≡ change here e = ap (λ o. cells_if o (change here e)) free in
      let parts : drop m all ≡ change here e ∷ changes i (after_call i here (Edits e)) (calls_of left) =
      h.split ∙ ap (λ xs. xs ++ changes i (after_call i here (Edits e)) (calls_of left)) (ap made cells ∙ made_edit here e) in
      let more = one_more m all (change here e) (changes i (after_call i here (Edits e)) (calls_of left)) parts in
      let next : apply_all (take (suc m) all) base ≡ after_call i here (Edits e) =
      ap (λ xs. apply_all xs base) more.1 ∙ apply_all-append (take m all) (change here e ∷ []) base ∙ ap (λ xs. apply xs here) (sym cells) in
      let stack_is : new ≡ stack_after i here (Edits e) stack = is ∙ ap (λ o. stacked_if o (stacked e (inverse here e) stack) stack) (sym free) in
      record {
        split = more.0 ∙ ap (λ t. changes i t (calls_of left)) (sym next);
        told = tails Done (told_or (edit_fault i here e) Done) (replies_in left) (replies i (after_call i here (Edits e)) (calls_of left)) h.told ∙ ap (λ t. replies i t (calls_of left)) (sym next);
        same = ap₂ (λ t s. stack_of i t (calls_of left) s) next stack_is ∙ h.same;
        lawful = subst (Lawful i) (sym next) (lawful_after_call i here (Edits e) h.lawful h.fit.0);
        fit = h.fit.1;
        fits = subst (Each (EditFits i)) (sym is) (stacked_fits i e (inverse here e) stack h.fits (inverse_fits i here e h.lawful h.fit.0));
      }

  -- a look
  look_here : (look : Look) (told : Reply) → IsUnstacking i base calls all m stack (record { call = Looks look; reply = told } ∷ left) → IsUnstacking i base calls all m stack left
  look_here look told h = record {
    split = h.split;
    told = tails told (reply i here (Looks look)) (replies_in left) (replies i here (calls_of left)) h.told;
    same = h.same;
    lawful = h.lawful;
    fit = h.fit.1;
    fits = h.fits;
  }

  -- an edit that was refused
  refused_here : (e : Edit) (told : Reply) (f : EditFault) → edit_fault i here e ≡ Some f → IsUnstacking i base calls all m stack (record { call = Edits e; reply = told } ∷ left) → IsUnstacking i base calls all m stack left
  refused_here e told f fault h =
      let still : after_call i here (Edits e) ≡ here = ap (λ o. apply (cells_if o (change here e)) here) fault in
      let none : made (cells_if (edit_fault i here e) (change here e)) ≡ [] = ap (λ o. made (cells_if o (change here e))) fault in
      record {
        split = h.split ∙ ap₂ (λ xs t. xs ++ changes i t (calls_of left)) none still;
        told = tails told (reply i here (Edits e)) (replies_in left) (replies i (after_call i here (Edits e)) (calls_of left)) h.told ∙ ap (λ t. replies i t (calls_of left)) still;
        same = sym (ap₂ (λ t o. stack_of i t (calls_of left) (stacked_if o (stacked e (inverse here e) stack) stack)) still fault) ∙ h.same;
        lawful = h.lawful;
        fit = h.fit.1;
        fits = h.fits;
      }

  edit_here : (e : Edit) (told : Reply) → done_by (Edits e) told ≡ None → (o : Option EditFault) → edit_fault i here e ≡ o → IsUnstacking i base calls all m stack (record { call = Edits e; reply = told } ∷ left) → IsUnstacking i base calls all m stack left
  edit_here e told none (Some f) fault h = refused_here e told f fault h
  edit_here e told none None free h =
      let done : told ≡ Done = heads told (told_or (edit_fault i here e) Done) (replies_in left) (replies i (after_call i here (Edits e)) (calls_of left)) h.told ∙ ap (λ o. told_or o Done) free in
      let bad : Some e ≡ None = subst (λ r. done_by (Edits e) r ≡ None) done none in
      cc

  -- a call that is not an accepted edit
  pub passed : (a : Asked) → done_edit a ≡ None → IsUnstacking i base calls all m stack (a ∷ left) → IsUnstacking i base calls all m stack left
  passed a none h = by a.call refl
    where
      by : (call : Call) → a.call ≡ call → IsUnstacking i base calls all m stack left
      by (Looks look) is = look_here look a.reply (subst (λ c. IsUnstacking i base calls all m stack (record { call = c; reply = a.reply } ∷ left)) is h)
      by (Edits e) is =
          edit_here e a.reply (subst (λ c. done_by c a.reply ≡ None) is none) (edit_fault i here e) refl
          (subst (λ c. IsUnstacking i base calls all m stack (record { call = c; reply = a.reply } ∷ left)) is h)

  done_is : (call : Call) (told : Reply) (e : Edit) → done_by call told ≡ Some e → (call ≡ Edits e) × (told ≡ Done)
  done_is (Looks look) told e h = cc
  done_is (Edits x) Done e h = (cc, refl)
  done_is (Edits x) (Refused f) e h = cc
  done_is (Edits x) (Lectures ls) e h = cc
  done_is (Edits x) (Costs c) e h = cc
  done_is (Edits x) (Priced p) e h = cc
  done_is (Edits x) (AreMissing xs) e h = cc
  done_is (Edits x) (AreCheapest xs) e h = cc
  done_is (Edits x) (AreOffers xs) e h = cc

  -- there are at least m changes, and the next accepted edit fits
  pub few_made : (a : Asked) (e : Edit) → done_edit a ≡ Some e → IsUnstacking i base calls all m stack (a ∷ left) → (m ≤ length all) × EditFits i e
  few_made a e is h =
      let parts = done_is a.call a.reply e is in
      let k = subst (λ (x : Asked). IsUnstacking i base calls all m stack (x ∷ left)) (ap₂ (λ c r. record { call = c; reply = r }) parts.0 parts.1) h in
      let free : edit_fault i here e ≡ None = free_of (edit_fault i here e) (heads Done (told_or (edit_fault i here e) Done) (replies_in left) (replies i (after_call i here (Edits e)) (calls_of left)) k.told) in
      let parts2 : drop m all ≡ change here e ∷ changes i (after_call i here (Edits e)) (calls_of left) =
      k.split ∙ ap (λ xs. xs ++ changes i (after_call i here (Edits e)) (calls_of left)) (ap (λ o. made (cells_if o (change here e))) free ∙ made_edit here e) in
      let less : m < length all = has_more m all (change here e) (changes i (after_call i here (Edits e)) (calls_of left)) parts2 in
      (omega (arith, less), k.fit.0)

  -- a call that is an accepted edit
  pub one_done : (a : Asked) (e : Edit) (n : ℕ) (new : List Edit) → done_edit a ≡ Some e → IsUnstacking i base calls all m stack (a ∷ left) → new ≡ stacked e (inverse here e) stack → n ≡ m + 1 → IsUnstacking i base calls all n new left
  one_done a e n new is h grown more =
      let parts = done_is a.call a.reply e is in
      let at : n ≡ suc m = omega (arith, more) in
      subst (λ k. IsUnstacking i base calls all k new left) (sym at)
      (done_here e new (subst (λ (x : Asked). IsUnstacking i base calls all m stack (x ∷ left)) (ap₂ (λ c r. record { call = c; reply = r }) parts.0 parts.1) h) grown)

-- no call is left
pub all_unstacked : (i : Problem) (base : List Placed) (calls : List Call) (all : List (List Cell)) (m : ℕ) (stack : List Edit) → IsUnstacking i base calls all m stack [] → stack ≡ stack_of i base calls []
all_unstacked i base calls all m stack h = h.same

last_of : (rest : List Edit) (x : Edit) → slice_get (rest ++ x ∷ []) (length rest) ≡ Some x
last_of [] x = refl
last_of (y ∷ ys) x = last_of ys x

longer : (rest : List Edit) (x : Edit) → length (rest ++ x ∷ []) ≡ suc (length rest)
longer [] x = refl
longer (y ∷ ys) x = ap suc (longer ys x)

-- what is popped off a stack is its top
pub popped : (stack rest : List Edit) (o : Option Edit) → stack ≡ rest ++ option_to_list o → (0 < length stack → IsSome o) → o ≡ top stack
popped [] rest None is some = refl
popped (x ∷ xs) rest None is some = (let bad : false ≡ true = some (omega arith) in cc)
popped stack rest (Some x) is some =
    let long = longer rest x in
    let at : length (rest ++ x ∷ []) - 1 ≡ length rest = omega (arith, long) in
    sym (ap top is ∙ ap (slice_get (rest ++ x ∷ [])) at ∙ last_of rest x)

Each-last : (P : Edit → Type 0) (rest : List Edit) (x : Edit) → Each P (rest ++ x ∷ []) → P x
Each-last P [] x h = h.0
Each-last P (y ∷ ys) x h = Each-last P ys x h.1

pub popped_fits : (i : Problem) (stack rest : List Edit) (o : Option Edit) → stack ≡ rest ++ option_to_list o → Each (EditFits i) stack → IfSome o (EditFits i)
popped_fits i stack rest None is fit = tt
popped_fits i stack rest (Some x) is fit = Each-last (EditFits i) rest x (subst (Each (EditFits i)) is fit)

-- dropping all elements of a list leaves none
pub none_left : {X : Type 0} (xs : List X) (k : ℕ) → length xs ≤ k → drop k xs ≡ []
none_left [] zero h = refl
none_left [] (suc k) h = refl
none_left (y ∷ ys) zero h = absurd (omega (arith, h))
none_left (y ∷ ys) (suc k) h = none_left ys k (omega (arith, h))
