-- Edits that are redone, one by one.
use Rattle.std.proofs.Common.{◌≡◌, ◌∙◌, inl, inr, ℕ, suc, ◌+◌, ◌<◌, Bool, true, false, List, [], ◌∷◌, ◌++◌, length, drop, get_or, flat_map, Option, Some, None, codes, arith, refl, sym, ap, ap₂, subst, append-nil, append_assoc}
use Rattle.std.specs.Fmt.{decimal}
use Rattle.std.proofs.Math.Seq.{drop-cons}
use Rattle.ctt_problem.specs.Problem.{Problem}
use Rattle.ctt_problem.specs.declared.placed.Placed.{Placed}
use Rattle.ctt_board.specs.Changes.{apply}
use Rattle.ctt_edits.specs.Calls.{CallFits, cells_if}
use Rattle.ctt_edits.specs.Edits.{EditFits, change, edit_fault, edited}
use Rattle.ctt_edits.specs.Looks.{told_or}
use Rattle.ctt_edits.specs.declared.call.Call.{Call}
use Rattle.ctt_edits.specs.declared.call.Call.TheVariants.{Edit as Edits, Look as Looks}
use Rattle.ctt_edits.specs.declared.edit.Edit.{Edit}
use Rattle.ctt_edits.specs.declared.fault.EditFault.{EditFault}
use Rattle.ctt_edits.specs.declared.reply.Reply.{Reply}
use Rattle.ctt_edits.specs.declared.reply.Reply.TheVariants.{Costs, Done, Edits as AreCheapest, Lectures, Missing as AreMissing, Price as Priced, Refused, Slots as AreOffers}
use Rattle.ctt_draft.specs.Drafts.{AskedFits, calls_of, whole}
use Rattle.ctt_draft.specs.Undoing.{done_by, done_edit, edits_done}
use Rattle.ctt_draft.specs.declared.asked.Asked.{Asked}
use Rattle.ctt_draft.proofs.CallRuns.{whole-push}
use Rattle.ctt_draft.proofs.DraftSteps.{calls-push}
use Rattle.ctt_core.specs.declared.answer.Answer.TheVariants.{NoMemory}
use Rattle.ctt_desk.specs.Planners.{DraftingValue, Grows, IsOpen, PlannerValue, asked_also, present_of}
use Rattle.ctt_desk.specs.declared.shared_fault.SharedFault.TheVariants as shared
use Rattle.ctt_line.specs.Lines.{words_part}
use Rattle.ctt_script.proofs.WrittenText.{parts_end}
use Rattle.ctt_seat.specs.declared.seat.Seat.TheVariants.{Drafting, Free}
use Rattle.ctt_seat.specs.declared.seat.SeatAnswer.TheVariants.{Answer as Answered}
use Rattle.ctt_office.specs.SeatAnswers.{RedoesCalls, told_line}
use Rattle.ctt_office.specs.declared.seat_state.SeatState.{SeatState}
use Rattle.ctt_office.specs.RedoLaws.{AreAsked, RedoIsAsking}
use Rattle.ctt_office.specs.Redone.{IsMadeAgain, IsMadeBy, LeftOut, left_out, left_out_if, left_out_words, as_done, redone_line, remade, remade_if}

-- words after others, each after a blank
pub parts_joined : (ws vs : List (List ℕ)) → words_part (ws ++ vs) ≡ words_part ws ++ words_part vs
parts_joined [] vs = refl
parts_joined (w ∷ ws) vs = ap (λ x. codes " " ++ (w ++ x)) (parts_joined ws vs) ∙ ap (λ x. codes " " ++ x) (sym (append_assoc w (words_part ws) (words_part vs)))

-- the text of edits that are left out
abbrev pub parts_of : Problem → List LeftOut → List ℕ
parts_of i xs = flat_map (λ x. words_part (left_out_words i x)) xs

-- some edits of the draft d, which is now e, are left; those before them were redone, or left out
-- in the text, which grew from `old`
pub record IsRemaking (i : Problem) (d e : DraftingValue) (old now : List ℕ) (again edits : ℕ) (all left : List Edit) : Type 0 where
  pub same : e ≡ record d { asked = e.asked }
  pub calls : e.asked ++ remade i (present_of i e) left ≡ d.asked ++ remade i (present_of i d) all
  pub texts : now ++ parts_of i (left_out i (present_of i e) (edits + 1) left) ≡ old ++ parts_of i (left_out i (present_of i d) 1 all)
  pub mades : again + length (remade i (present_of i e) left) ≡ length (remade i (present_of i d) all)
  pub counts : edits + length left ≡ length all

-- the timetable after an edit that is made
made_on : (i : Problem) (e : DraftingValue) (x : Edit) → edit_fault i (present_of i e) x ≡ None → present_of i (asked_also e (Edits x) Done) ≡ edited (present_of i e) x
made_on i e x free =
    ap (whole i e.base) (calls-push e.asked (record { call = Edits x; reply = Done }))
    ∙ whole-push i e.base (calls_of e.asked) (Edits x)
    ∙ ap (λ o. apply (cells_if o (change (present_of i e) x)) (present_of i e)) free

module _ (i : Problem) (d e : DraftingValue) (old now : List ℕ) (again edits : ℕ) (all left : List Edit) (x : Edit) (h : IsRemaking i d e old now again edits all (x ∷ left)) where
  -- an edit that is made
  one_made : edit_fault i (present_of i e) x ≡ None → IsRemaking i d (asked_also e (Edits x) Done) old now (again + 1) (edits + 1) all left
  one_made free =
      let next : present_of i (asked_also e (Edits x) Done) ≡ edited (present_of i e) x = made_on i e x free in
      let here : remade i (present_of i e) (x ∷ left) ≡ as_done x ∷ remade i (edited (present_of i e) x) left = ap (λ o. remade_if o x (remade i (edited (present_of i e) x) left) (remade i (present_of i e) left)) free in
      let out : left_out i (present_of i e) (edits + 1) (x ∷ left) ≡ left_out i (edited (present_of i e) x) (edits + 1 + 1) left =
      ap (λ o. left_out_if o (edits + 1) x (left_out i (edited (present_of i e) x) (edits + 1 + 1) left) (left_out i (present_of i e) (edits + 1 + 1) left)) free in
      let long : length (remade i (present_of i e) (x ∷ left)) ≡ suc (length (remade i (edited (present_of i e) x) left)) = ap length here in
      let mades = h.mades in
      let counts = h.counts in
      record {
        same = ap (λ (w : DraftingValue). record w { asked = e.asked ++ as_done x ∷ [] }) h.same;
        calls = ap (λ t. (e.asked ++ as_done x ∷ []) ++ remade i t left) next ∙ append_assoc e.asked (as_done x ∷ []) (remade i (edited (present_of i e) x) left) ∙ ap (λ xs. e.asked ++ xs) (sym here) ∙ h.calls;
        texts = ap (λ t. now ++ parts_of i (left_out i t (edits + 1 + 1) left)) next ∙ ap (λ xs. now ++ parts_of i xs) (sym out) ∙ h.texts;
        mades = ap (λ t. again + 1 + length (remade i t left)) next ∙ omega (arith, mades, long);
        counts = omega (arith, counts);
      }

  -- one that is left out
  one_left_out : (f : EditFault) (new : List ℕ) → edit_fault i (present_of i e) x ≡ Some f → new ≡ now ++ words_part (left_out_words i (record { number = edits + 1; edit = x; fault = f })) → IsRemaking i d e old new again (edits + 1) all left
  one_left_out f new fault grown =
      let here : remade i (present_of i e) (x ∷ left) ≡ remade i (present_of i e) left = ap (λ o. remade_if o x (remade i (edited (present_of i e) x) left) (remade i (present_of i e) left)) fault in
      let it : LeftOut = record { number = edits + 1; edit = x; fault = f } in
      let out : left_out i (present_of i e) (edits + 1) (x ∷ left) ≡ it ∷ left_out i (present_of i e) (edits + 1 + 1) left =
      ap (λ o. left_out_if o (edits + 1) x (left_out i (edited (present_of i e) x) (edits + 1 + 1) left) (left_out i (present_of i e) (edits + 1 + 1) left)) fault in
      let counts = h.counts in
      record {
        same = h.same;
        calls = ap (λ xs. e.asked ++ xs) (sym here) ∙ h.calls;
        texts =
            ap (λ bs. bs ++ parts_of i (left_out i (present_of i e) (edits + 1 + 1) left)) grown
            ∙ append_assoc now (words_part (left_out_words i it)) (parts_of i (left_out i (present_of i e) (edits + 1 + 1) left))
            ∙ ap (λ xs. now ++ parts_of i xs) (sym out)
            ∙ h.texts;
        mades = ap (λ xs. again + length xs) (sym here) ∙ h.mades;
        counts = omega (arith, counts);
      }

  by_fault : (o : Option EditFault) (e' : DraftingValue) (new : List ℕ) (was_made : Bool) → edit_fault i (present_of i e) x ≡ o → IsMadeBy o i (edits + 1) x e e' now new was_made
      → (was_made ≡ true → IsRemaking i d e' old new (again + 1) (edits + 1) all left) × (was_made ≡ false → IsRemaking i d e' old new again (edits + 1) all left)
  by_fault None e' new was_made free is = (
    λ _. subst (λ (w : DraftingValue). IsRemaking i d w old new (again + 1) (edits + 1) all left) (sym is.0) (subst (λ bs. IsRemaking i d (asked_also e (Edits x) Done) old bs (again + 1) (edits + 1) all left) (sym is.1) (one_made free)),
    λ no. absurd (let bad : true ≡ false = sym is.2 ∙ no in cc),
  )
  by_fault (Some f) e' new was_made fault is = (
    λ yes. absurd (let bad : false ≡ true = sym is.2 ∙ yes in cc),
    λ _. subst (λ (w : DraftingValue). IsRemaking i d w old new again (edits + 1) all left) (sym is.0) (one_left_out f new fault is.1),
  )

  -- one more edit
  pub one_more : (e' : DraftingValue) (new : List ℕ) (was_made : Bool) → IsMadeAgain i (edits + 1) x e e' now new was_made
      → (was_made ≡ true → IsRemaking i d e' old new (again + 1) (edits + 1) all left) × (was_made ≡ false → IsRemaking i d e' old new again (edits + 1) all left)
  one_more e' new was_made is = by_fault (edit_fault i (present_of i e) x) e' new was_made refl is

-- a call that is no accepted edit, and one that is
pub none_done : (a : Asked) (left : List Asked) → done_edit a ≡ None → edits_done (a ∷ left) ≡ edits_done left
none_done a left none = rw none refl

pub one_done : (a : Asked) (left : List Asked) (x : Edit) → done_edit a ≡ Some x → edits_done (a ∷ left) ≡ x ∷ edits_done left
one_done a left x some = rw some refl

-- what is left from a place
pub left_at : {X : Type 0} (xs : List X) (k : ℕ) (x : X) → k < length xs → x ≡ get_or xs k x → drop k xs ≡ x ∷ drop (k + 1) xs
left_at xs k x lt is = (let next : suc k ≡ k + 1 = omega arith in drop-cons xs k x lt ∙ ap₂ (λ y n. y ∷ drop n xs) (sym is) next)

-- an accepted edit fits
pub done_fits : (i : Problem) (a : Asked) (e : Edit) → done_edit a ≡ Some e → AskedFits i a → EditFits i e
done_fits i a e is fits = by a.call a.reply is fits.0
  where
    by : (call : Call) (told : Reply) → done_by call told ≡ Some e → CallFits i call → EditFits i e
    by (Looks look) told h fit = cc
    by (Edits x) Done h fit = (let same : x ≡ e = cc in subst (EditFits i) same fit)
    by (Edits x) (Refused f) h fit = cc
    by (Edits x) (Lectures ls) h fit = cc
    by (Edits x) (Costs c) h fit = cc
    by (Edits x) (Priced p) h fit = cc
    by (Edits x) (AreMissing xs) h fit = cc
    by (Edits x) (AreCheapest xs) h fit = cc
    by (Edits x) (AreOffers xs) h fit = cc

-- the same by other values
pub remaking_is : (i : Problem) (d e e' : DraftingValue) (old now now' : List ℕ) (again again' edits edits' : ℕ) (all left : List Edit) → e' ≡ e → now' ≡ now → again' ≡ again → edits' ≡ edits
    → IsRemaking i d e old now again edits all left → IsRemaking i d e' old now' again' edits' all left
remaking_is i d e e' old now now' again again' edits edits' all left drafts texts mades counts h =
    subst (λ w. IsRemaking i d w old now' again' edits' all left) (sym drafts)
    (subst (λ bs. IsRemaking i d e old bs again' edits' all left) (sym texts)
    (subst (λ m. IsRemaking i d e old now m edits' all left) (sym mades)
    (subst (λ n. IsRemaking i d e old now again n all left) (sym counts) h)))

-- the whole line
pub whole_line : (i : Problem) (t : List Placed) (all : List Edit) (again edits : ℕ) (text : List ℕ) → again ≡ length (remade i t all) → edits ≡ length all → text ≡ parts_of i (left_out i t 1 all)
    → codes "redone " ++ (decimal again ++ (codes " of " ++ (decimal edits ++ (text ++ codes "\n")))) ≡ redone_line i t all
whole_line i t all again edits text mades counts texts =
    ap₂ (λ a b. codes "redone " ++ (decimal a ++ (codes " of " ++ (decimal b ++ (text ++ codes "\n"))))) mades counts
    ∙ ap (λ bs. codes "redone " ++ (decimal (length (remade i t all)) ++ (codes " of " ++ (decimal (length all) ++ bs)))) (ap (λ bs. bs ++ codes "\n") texts ∙ sym (parts_end (left_out_words i) (left_out i t 1 all)))

-- in a draft in which nothing was asked yet
pub new_present : (i : Problem) (d : DraftingValue) → d.asked ≡ [] → present_of i d ≡ d.base
new_present i d none = ap (λ xs. whole i d.base (calls_of xs)) none

-- memory runs out for a draft that was opened
pub wanted : {X Y : Type 0} (i : Problem) (t0 : List Placed) (p : PlannerValue) (asked : List Asked) (d : DraftingValue) (q : PlannerValue) (after : SeatState X Y) (answer : List ℕ) → IsOpen i t0 p d → q ≡ d.planner → after.seat ≡ Free q → after.ended ≡ Some asked
    → answer ≡ told_line i (Answered NoMemory) → RedoesCalls i t0 p asked after answer
wanted i t0 p asked d q after answer opened same seat ended line_is = inr (q, Answered NoMemory, (shared.NoMemory, subst (Grows i t0 p) (sym same) opened.planner, refl), seat, ended, line_is)

-- the edits that are redone, asked for one by one
abbrev AreAskedFrom : Problem → DraftingValue → List Asked → Type 0
AreAskedFrom i d xs = AreAsked i (edits_done xs) (Drafting d) (Drafting (record d { asked = d.asked ++ xs }))

ask_first : (i : Problem) (d : DraftingValue) (e : Edit) (xs : List Asked) → edit_fault i (present_of i d) e ≡ None → AreAskedFrom i (asked_also d (Edits e) Done) xs → AreAskedFrom i d (as_done e ∷ xs)
ask_first i d e xs free more = (
  Drafting (asked_also d (Edits e) Done),
  inl (Done, sym (ap (λ o. told_or o Done) free), refl, refl),
  subst (λ ys. AreAsked i (edits_done xs) (Drafting (asked_also d (Edits e) Done)) (Drafting (record d { asked = ys }))) (append_assoc d.asked (as_done e ∷ []) xs) more,
)

ask_each : (i : Problem) (d : DraftingValue) (edits : List Edit) → AreAskedFrom i d (remade i (present_of i d) edits)
ask_each i d [] = ap (λ ys. Drafting (record d { asked = ys })) (append-nil d.asked)
ask_each i d (e ∷ edits) = by (edit_fault i (present_of i d) e) refl (ask_each i (asked_also d (Edits e) Done) edits) (ask_each i d edits)
  where
    by : (o : Option EditFault) → edit_fault i (present_of i d) e ≡ o
        → AreAskedFrom i (asked_also d (Edits e) Done) (remade i (present_of i (asked_also d (Edits e) Done)) edits)
        → AreAskedFrom i d (remade i (present_of i d) edits) → AreAskedFrom i d (remade i (present_of i d) (e ∷ edits))
    by None free later same =
        subst (AreAskedFrom i d) (sym (ap (λ o. remade_if o e (remade i (edited (present_of i d) e) edits) (remade i (present_of i d) edits)) free))
        (ask_first i d e (remade i (edited (present_of i d) e) edits) free (subst (λ t. AreAskedFrom i (asked_also d (Edits e) Done) (remade i t edits)) (made_on i d e free) later))
    by (Some f) fault later same =
        subst (AreAskedFrom i d) (sym (ap (λ o. remade_if o e (remade i (edited (present_of i d) e) edits) (remade i (present_of i d) edits)) fault)) same

pub redo_is_asking : RedoIsAsking
redo_is_asking i d edits none =
    let all = ask_each i d edits in
    let here : present_of i d ≡ d.base = ap (λ xs. whole i d.base (calls_of xs)) none in
    let joined : d.asked ++ remade i (present_of i d) edits ≡ remade i d.base edits = ap₂ (λ xs t. xs ++ remade i t edits) none here in
    subst (λ t. AreAsked i (edits_done (remade i t edits)) (Drafting d) (Drafting (record d { asked = remade i d.base edits }))) here
    (subst (λ ys. AreAsked i (edits_done (remade i (present_of i d) edits)) (Drafting d) (Drafting (record d { asked = ys }))) joined all)
