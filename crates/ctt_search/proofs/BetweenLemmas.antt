-- The edits between two lawful timetables lead from the one to the other.
use Rattle.std.proofs.Common.{◌≡◌, ℕ, zero, suc, ◌+◌, ◌<◌, length, get_or, take, append_assoc, Bool, true, false, cond, not, ◌&&◌, ◌||◌, ◌==◌, List, [], ◌∷◌, ◌++◌, map, Option, Some, None, is_some, is_none, refl, ◌∙◌, sym, ap, subst, arith, inl, inr}
use Rattle.std.specs.List.{filter, find, list_any, AllByRecursion as Each}
use Rattle.std.specs.Option.{option_eq, option_map}
use Rattle.std.proofs.lemmas.Bool.{cases_Bool, cases_eq, and_parts, eq-eqb, ne_eqb, eqb-true}
use Rattle.std.proofs.lemmas.Bool.Decides.{nat_tests}
use Rattle.std.proofs.lemmas.List.{append-nil, map-append}
use Rattle.ctt_problem.specs.Lists.{Pairwise}
use Rattle.ctt_problem.specs.Problem.{Problem}
use Rattle.ctt_problem.specs.Timetable.{before, Ascending, Fits, has_lecture, with, without}
use Rattle.ctt_problem.specs.declared.placed.Placed.{Placed}
use Rattle.ctt_problem.proofs.LectureLaws.{before_apart_turned}
use Rattle.ctt_rules.specs.Hard.{Lawful}
use Rattle.ctt_rules.proofs.ListLemmas.{Each-filter, Each-both, Pairwise-filter, Pairwise-map}
use Rattle.ctt_board.specs.Changes.{room_at, room_of, cell, apply, ChangeFits}
use Rattle.ctt_board.specs.Fitting.{Obstacle, obstacle, is_known, can_place, fits}
use Rattle.ctt_board.specs.declared.cell.Cell.{Cell}
use Rattle.ctt_board.proofs.FitLemmas.{fits_as_tested}
use Rattle.ctt_board.proofs.HolderLemmas.{removed_back}
use Rattle.ctt_board.proofs.LawfulLemmas.{without_lawful}
use Rattle.ctt_board.proofs.MoreLemmas.{only_one}
use Rattle.ctt_board.proofs.PutLemmas.{filter_filter}
use Rattle.ctt_board.proofs.RoomLemmas.{is_at, room_is, room_after}
use Rattle.ctt_edits.specs.Calls.{cells_if}
use Rattle.ctt_edits.specs.Edits.{EditFits, as_fault, fault_if, try_fault, edit_fault, change, edited}
use Rattle.ctt_edits.specs.Looks.{told_or}
use Rattle.ctt_edits.specs.declared.call.Call.TheVariants.{Edit as Edits}
use Rattle.ctt_edits.specs.declared.edit.Edit.{Edit}
use Rattle.ctt_edits.specs.declared.fault.EditFault.TheVariants.{NotPlaced}
use Rattle.ctt_edits.specs.declared.reply.Reply.TheVariants.{Done}
use Rattle.ctt_edits.proofs.OpeningLemmas.{rooms_determine}
use Rattle.ctt_draft.specs.Drafts.{replies, whole, after_call}
use Rattle.ctt_search.specs.Between.{stands_in, only_in, drop_of, place_of, as_calls, Leads, EditsLead}

-- no two of the lectures are of one course in one slot
abbrev Distinct : List Placed → Type 0
Distinct ls = Pairwise (λ (a b : Placed). (a.course == b.course && a.slot == b.slot) ≡ false) ls

-- each of the lectures stands in t
abbrev Stand : List Placed → List Placed → Type 0
Stand t ls = Each (λ (l : Placed). room_at l.course l.slot t ≡ Some l.room) ls

-- a timetable without these lectures, of which the first is taken out first
abbrev gone : List Placed → List Placed → List Placed
gone [] t = t
gone (l ∷ ls) t = gone ls (without l.course l.slot t)

-- the same, of which the first is taken out last
abbrev stripped : List Placed → List Placed → List Placed
stripped [] t = t
stripped (l ∷ ls) t = without l.course l.slot (stripped ls t)

gone_later : (ls : List Placed) (c s : ℕ) (t : List Placed) → gone ls (without c s t) ≡ without c s (gone ls t)
gone_later [] c s t = refl
gone_later (l ∷ ls) c s t =
    ap (gone ls) (filter_filter (λ x. not (x.course == l.course && x.slot == l.slot)) (λ x. not (x.course == c && x.slot == s)) t)
    ∙ gone_later ls c s (without l.course l.slot t)

gone_is : (ls t : List Placed) → gone ls t ≡ stripped ls t
gone_is [] t = refl
gone_is (l ∷ ls) t = gone_later ls l.course l.slot t ∙ ap (without l.course l.slot) (gone_is ls t)

stripped_lawful : (i : Problem) (ls t : List Placed) → Lawful i t → Lawful i (stripped ls t)
stripped_lawful i [] t h = h
stripped_lawful i (l ∷ ls) t h = without_lawful i (stripped ls t) l.course l.slot (stripped_lawful i ls t h)

distinct : (t : List Placed) → Ascending t → Distinct t
distinct t h = Pairwise-map (λ a b. before a b ≡ true) (λ (a b : Placed). (a.course == b.course && a.slot == b.slot) ≡ false) before_apart_turned t h

-- each lecture of a timetable stands in it
own_rooms : (t : List Placed) → Ascending t → Stand t t
own_rooms [] h = tt
own_rooms (x ∷ xs) h = (
  room_is x.course x.slot (x ∷ xs) ∙ first,
  Each-both (λ y. before x y ≡ true) (λ (l : Placed). room_at l.course l.slot xs ≡ Some l.room) (λ (l : Placed). room_at l.course l.slot (x ∷ xs) ≡ Some l.room)
      (λ y b r. room_is y.course y.slot (x ∷ xs) ∙ later y b ∙ sym (room_is y.course y.slot xs) ∙ r) xs h.0 (own_rooms xs h.1),
)
  where
    mine : is_at x.course x.slot x ≡ true
    mine = rw (eq-eqb x.course x.course refl, eq-eqb x.slot x.slot refl) refl

    first : room_of (find (is_at x.course x.slot) (x ∷ xs)) ≡ Some x.room
    first = rw mine refl

    later : (y : Placed) → before x y ≡ true → room_of (find (is_at y.course y.slot) (x ∷ xs)) ≡ room_of (find (is_at y.course y.slot) xs)
    later y b = (let n : is_at y.course y.slot x ≡ false = before_apart_turned x y b in rw n refl)

none_like : (l : Placed) (ls : List Placed) → Each (λ (b : Placed). (l.course == b.course && l.slot == b.slot) ≡ false) ls → has_lecture l.course l.slot ls ≡ false
none_like l [] h = refl
none_like l (x ∷ xs) h =
    let turned : (x.course == l.course && x.slot == l.slot) ≡ false = turn x h.0 in
    rw turned (none_like l xs h.1)
  where
    turn : (x : Placed) → (l.course == x.course && l.slot == x.slot) ≡ false → (x.course == l.course && x.slot == l.slot) ≡ false
    turn x n = grind (arith, nat_tests)

either : {X : Type 0} (a b : Bool) (x y : X) → cond a x (cond b x y) ≡ cond (a || b) x y
either true b x y = refl
either false b x y = refl

-- the rooms that are left
stripped_room : (t ls : List Placed) → Distinct ls → Stand t ls → (c s : ℕ) → room_at c s (stripped ls t) ≡ cond (has_lecture c s ls) None (room_at c s t)
stripped_room t [] d there c s = refl
stripped_room t (l ∷ ls) d there c s =
    let rest : List Placed = stripped ls t in
    let own : room_at l.course l.slot rest ≡ Some l.room =
    stripped_room t ls d.1 there.1 l.course l.slot ∙ ap (λ b. cond b None (room_at l.course l.slot t)) (none_like l ls d.0) ∙ there.0 in
    room_after l.course l.slot None c s rest (ap is_some own)
    ∙ ap (λ o. cond (l.course == c && l.slot == s) None o) (stripped_room t ls d.1 there.1 c s)
    ∙ either (l.course == c && l.slot == s) (has_lecture c s ls) None (room_at c s t)

-- whether the lecture with this room, if any, passes the test
abbrev passes : (Placed → Bool) → ℕ → ℕ → Option ℕ → Bool
passes q c s None = false
passes q c s (Some r) = q (record { course = c; slot = s; room = r })

none_passes : (q : Placed → Bool) (c s : ℕ) (xs : List Placed) → Each (λ y. not (is_at c s y) ≡ true) xs → list_any (is_at c s) (filter q xs) ≡ false
none_passes q c s [] h = refl
none_passes q c s (x ∷ xs) h =
    let n : is_at c s x ≡ false = denied (is_at c s x) h.0 in
    elim (cases_Bool (q x)) [ inl k ↦ rw (k, n) (none_passes q c s xs h.1) | inr k ↦ rw k (none_passes q c s xs h.1) ]
  where
    denied : (b : Bool) → not b ≡ true → b ≡ false
    denied true e = cc
    denied false e = refl

first_named : (q : Placed → Bool) (c s : ℕ) (x : Placed) (xs : List Placed) → is_at c s x ≡ true → list_any (is_at c s) (filter q xs) ≡ false → list_any (is_at c s) (filter q (x ∷ xs)) ≡ q x
first_named q c s x xs y none = elim (cases_Bool (q x)) [ inl k ↦ rw (k, y) refl | inr k ↦ rw k none ]

-- of the lectures of a timetable that pass a test, one is of the course and slot if the lecture
-- that stands there passes
named : (q : Placed → Bool) (c s : ℕ) (t : List Placed) → Ascending t → list_any (is_at c s) (filter q t) ≡ passes q c s (room_of (find (is_at c s) t))
named q c s [] h = refl
named q c s (x ∷ xs) h = elim (cases_Bool (is_at c s x)) [
  | inl y ↦ (
      let found : room_of (find (is_at c s) (x ∷ xs)) ≡ Some x.room = rw y refl in
      first_named q c s x xs y (none_passes q c s xs (only_one c s x xs y h.0)) ∙ ap q (it y) ∙ sym (ap (passes q c s) found))
  | inr n ↦ (
      let found : room_of (find (is_at c s) (x ∷ xs)) ≡ room_of (find (is_at c s) xs) = rw n refl in
      skipped n ∙ named q c s xs h.1 ∙ sym (ap (passes q c s) found))
]
  where
    it : is_at c s x ≡ true → ◌≡◌ {A = Placed} x (record { course = c; slot = s; room = x.room })
    it y =
        let parts = and_parts (x.course == c) (x.slot == s) y in
        ap (λ n. record { course = n; slot = x.slot; room = x.room }) (eqb-true x.course c parts.0)
        ∙ ap (λ n. record { course = c; slot = n; room = x.room }) (eqb-true x.slot s parts.1)

    skipped : is_at c s x ≡ false → list_any (is_at c s) (filter q (x ∷ xs)) ≡ list_any (is_at c s) (filter q xs)
    skipped n = elim (cases_Bool (q x)) [ inl k ↦ rw (k, n) refl | inr k ↦ rw k refl ]

-- a room that is there and not the other one
abbrev differs : Option ℕ → Option ℕ → Bool
differs other None = false
differs other (Some r) = not (option_eq (λ (a b : ℕ). a == b) other (Some r))

passes_is : (u : List Placed) (c s : ℕ) (o : Option ℕ) → passes (λ l. not (stands_in u l)) c s o ≡ differs (room_at c s u) o
passes_is u c s None = refl
passes_is u c s (Some r) = refl

both : (a b : Option ℕ) → cond (differs b a) None a ≡ cond (differs a b) None b
both None None = refl
both None (Some q) = refl
both (Some r) None = refl
both (Some r) (Some q) = elim (cases_eq r q) [
  | inl same ↦ rw (eq-eqb q r (sym same), eq-eqb r q same) (ap Some same)
  | inr other ↦ rw (ne_eqb q r (λ e. other (sym e)), ne_eqb r q other) refl
]

-- what is left of each of two timetables without the lectures that do not stand so in the other
only_room : (t u : List Placed) → Ascending t → (c s : ℕ) → room_at c s (stripped (only_in t u) t) ≡ cond (differs (room_at c s u) (room_at c s t)) None (room_at c s t)
only_room t u h c s =
    let q : Placed → Bool = λ l. not (stands_in u l) in
    stripped_room t (only_in t u) (Pairwise-filter (λ (a b : Placed). (a.course == b.course && a.slot == b.slot) ≡ false) q t (distinct t h)) (Each-filter (λ (l : Placed). room_at l.course l.slot t ≡ Some l.room) q t (own_rooms t h)) c s
    ∙ ap (λ b. cond b None (room_at c s t)) (named q c s t h ∙ ap (passes q c s) (sym (room_is c s t)) ∙ passes_is u c s (room_at c s t))

middle : (i : Problem) (t u : List Placed) → Lawful i t → Lawful i u → stripped (only_in t u) t ≡ stripped (only_in u t) u
middle i t u h k =
    rooms_determine i (stripped (only_in t u) t) (stripped (only_in u t) u) (stripped_lawful i (only_in t u) t h).timetable (stripped_lawful i (only_in u t) u k).timetable
    (λ c s lt ls. only_room t u h.timetable.ascending c s ∙ both (room_at c s t) (room_at c s u) ∙ sym (only_room u t k.timetable.ascending c s))

-- an edit that fits, and those after it
one_more : (i : Problem) (t u : List Placed) (e : Edit) (es : List Edit) → EditFits i e → edit_fault i t e ≡ None → Leads i (edited t e) es u → Leads i t (e ∷ es) u
one_more i t u e es f none rest =
    let after : after_call i t (Edits e) ≡ edited t e = ap (λ o. apply (cells_if o (change t e)) t) none in
    record {
      fit = (f, rest.fit);
      done = (ap (λ o. told_or o Done) none, subst (λ v. Each (λ reply. reply ≡ Done) (replies i v (as_calls es))) (sym after) rest.done);
      leaves = ap (λ v. whole i v (as_calls es)) after ∙ rest.leaves;
    }

can_drop : (o : Option ℕ) → is_some o ≡ true → fault_if (is_none o) NotPlaced ≡ None
can_drop None h = cc
can_drop (Some r) h = refl

still_there : (t : List Placed) (l k : Placed) → room_at l.course l.slot t ≡ Some l.room → (l.course == k.course && l.slot == k.slot) ≡ false → room_at k.course k.slot t ≡ Some k.room → room_at k.course k.slot (without l.course l.slot t) ≡ Some k.room
still_there t l k there apart other = room_after l.course l.slot None k.course k.slot t (ap is_some there) ∙ ap (λ b. cond b None (room_at k.course k.slot t)) apart ∙ other

-- lectures that are dropped, and the edits after them
drops_lead : (i : Problem) (u t ds : List Placed) (es : List Edit) → Distinct ds → Stand t ds → Each (Fits i) ds → Leads i (gone ds t) es u → Leads i t (map drop_of ds ++ es) u
drops_lead i u t [] es d there f rest = rest
drops_lead i u t (l ∷ ls) es d there f rest =
    let left : List Placed = without l.course l.slot t in
    let stand : Stand left ls = Each-both (λ (k : Placed). (l.course == k.course && l.slot == k.slot) ≡ false) (λ (k : Placed). room_at k.course k.slot t ≡ Some k.room) (λ (k : Placed). room_at k.course k.slot left ≡ Some k.room) (λ k apart other. still_there t l k there.0 apart other) ls d.0 there.1 in
    one_more i t u (drop_of l) (map drop_of ls ++ es) (f.0.0, f.0.1) (can_drop (room_at l.course l.slot t) (ap is_some there.0)) (drops_lead i u left ls es d.1 stand f.1 rest)

no_obstacle : (o : Option Obstacle) → is_none o ≡ true → option_map as_fault o ≡ None
no_obstacle None h = refl
no_obstacle (Some x) h = cc

-- a lecture that is put back where it stood
can_put_back : (i : Problem) (t : List Placed) (l : Placed) → Lawful i t → room_at l.course l.slot t ≡ Some l.room → (try_fault i (without l.course l.slot t) l.course l.slot l.room ≡ None) × (with l (without l.course l.slot t) ≡ t)
can_put_back i t l h at =
    let c : ℕ = l.course in
    let s : ℕ = l.slot in
    let left : List Placed = without c s t in
    let cells : List Cell = cell c s (Some l.room) ∷ [] in
    let back : with l left ≡ t = removed_back c s l.room t h.timetable.ascending (sym (room_is c s t) ∙ at) in
    let empty : is_some (room_at c s left) ≡ false = ap is_some (room_after c s None c s t (ap is_some at)) ∙ rw (eq-eqb c c refl, eq-eqb s s refl) refl in
    let fit : ChangeFits i cells left = record { cells_fit = (empty, tt); lawful = subst (Lawful i) (sym back) h } in
    let told : fits i cells left ≡ true = (fits_as_tested i cells left (without_lawful i t c s h) refl).1 fit in
    let one = and_parts (can_place i left l) true told in
    let two = and_parts (is_known i l) (is_none (obstacle i left c s l.room)) one.0 in
    (no_obstacle (obstacle i left c s l.room) two.1, back)

-- lectures that are placed
places_lead : (i : Problem) (u ps : List Placed) → Lawful i u → Distinct ps → Stand u ps → Each (Fits i) ps → Leads i (stripped ps u) (map place_of ps) u
places_lead i u [] h d there f = record { fit = tt; done = tt; leaves = refl }
places_lead i u (l ∷ ls) h d there f =
    let t : List Placed = stripped ls u in
    let at : room_at l.course l.slot t ≡ Some l.room =
    stripped_room u ls d.1 there.1 l.course l.slot ∙ ap (λ b. cond b None (room_at l.course l.slot u)) (none_like l ls d.0) ∙ there.0 in
    let put = can_put_back i t l (stripped_lawful i ls u h) at in
    one_more i (without l.course l.slot t) u (place_of l) (map place_of ls) f.0 put.0
    (subst (λ v. Leads i v (map place_of ls) u) (sym put.1) (places_lead i u ls h d.1 there.1 f.1))

taken : (p : Placed → Bool) (xs : List Placed) (k : ℕ) (x : Placed) → k < length xs → x ≡ get_or xs k x → filter p (take (suc k) xs) ≡ filter p (take k xs) ++ cond (p x) (x ∷ []) []
taken p [] k x lt e = absurd (omega (arith, lt))
taken p (y ∷ ys) zero x lt e = ap (λ z. cond (p z) (z ∷ []) []) (sym e)
taken p (y ∷ ys) (suc k) x lt e = elim (cases_Bool (p y)) [
  | inl b ↦ rw b (ap (λ zs. y ∷ zs) (taken p ys k x (omega (arith, lt)) e))
  | inr b ↦ rw b (taken p ys k x (omega (arith, lt)) e)
]

one_on : (n : ℕ) → n + 1 ≡ suc n
one_on n = omega arith

module _ (f : Placed → Edit) (t u : List Placed) (k : ℕ) (x : Placed) (start old new : List Edit) (lt : k < length t) (item : x ≡ get_or t k x) (was : old ≡ start ++ map f (only_in (take k t) u)) where
  -- one more lecture that does not stand so in u
  pub listed : stands_in u x ≡ false → new ≡ old ++ f x ∷ [] → new ≡ start ++ map f (only_in (take (k + 1) t) u)
  listed fails is =
      let more : only_in (take (suc k) t) u ≡ only_in (take k t) u ++ x ∷ [] =
      taken (λ l. not (stands_in u l)) t k x lt item ∙ ap (λ b. only_in (take k t) u ++ cond (not b) (x ∷ []) []) fails in
      is ∙ ap (λ es. es ++ f x ∷ []) was ∙ append_assoc start (map f (only_in (take k t) u)) (f x ∷ [])
      ∙ ap (λ es. start ++ es) (sym (map-append f (only_in (take k t) u) (x ∷ [])) ∙ ap (map f) (sym more) ∙ ap (λ n. map f (only_in (take n t) u)) (sym (one_on k)))

  -- one more that does
  pub passed : stands_in u x ≡ true → new ≡ old → new ≡ start ++ map f (only_in (take (k + 1) t) u)
  passed stands is =
      let same : only_in (take (suc k) t) u ≡ only_in (take k t) u =
      taken (λ l. not (stands_in u l)) t k x lt item ∙ ap (λ b. only_in (take k t) u ++ cond (not b) (x ∷ []) []) stands ∙ append-nil (only_in (take k t) u) in
      is ∙ was ∙ ap (λ ls. start ++ map f ls) (sym same) ∙ ap (λ n. start ++ map f (only_in (take n t) u)) (sym (one_on k))

pub edits_lead : EditsLead
edits_lead i t u h k =
    let p : Placed → Bool = λ l. not (stands_in u l) in
    let q : Placed → Bool = λ l. not (stands_in t l) in
    let Apart : Placed → Placed → Type 0 = λ a b. (a.course == b.course && a.slot == b.slot) ≡ false in
    let placed = places_lead i u (only_in u t) k (Pairwise-filter Apart q u (distinct u k.timetable.ascending)) (Each-filter (λ (l : Placed). room_at l.course l.slot u ≡ Some l.room) q u (own_rooms u k.timetable.ascending)) (Each-filter (Fits i) q u k.timetable.fits) in
    drops_lead i u t (only_in t u) (map place_of (only_in u t)) (Pairwise-filter Apart p t (distinct t h.timetable.ascending)) (Each-filter (λ (l : Placed). room_at l.course l.slot t ≡ Some l.room) p t (own_rooms t h.timetable.ascending)) (Each-filter (Fits i) p t h.timetable.fits)
    (subst (λ v. Leads i v (map place_of (only_in u t)) u) (sym (gone_is (only_in t u) t ∙ middle i t u h k)) placed)
