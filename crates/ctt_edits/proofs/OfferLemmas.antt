-- The edits of a pattern to one slot, choice by choice.
use Rattle.std.proofs.Common.{◌≡◌, ℕ, zero, suc, ◌+◌, ◌<◌, ◌≤◌, ◌==◌, Bool, true, false, cond, List, [], ◌∷◌, ◌++◌, map, None, refl, ◌∙◌, sym, ap, ap₂, subst, arith, inl, inr}
use Rattle.std.specs.List.{filter, flat_map, fold, range_with_len, AllByRecursion as Each}
use Rattle.std.proofs.lemmas.Bool.{cases_eq, eq-eqb, ne_eqb}
use Rattle.std.proofs.lemmas.List.{append-nil, append_assoc}
use Rattle.std.proofs.lemmas.List.Elements.{filter-append}
use Rattle.ctt_problem.specs.Problem.{Problem, course_count, slot_count, room_count}
use Rattle.ctt_problem.specs.declared.placed.Placed.{Placed}
use Rattle.ctt_problem.proofs.ListLaws.{Each-mapped}
use Rattle.ctt_rules.proofs.ListLemmas.{Each-every, Each-filter, filter_none, filter_every}
use Rattle.ctt_edits.specs.Candidates.{from_to}
use Rattle.ctt_edits.specs.Edits.{EditFits}
use Rattle.ctt_edits.specs.Offers.{pattern_of, target, edits_to, is_better, offer, slot_offer, other_choices, edit_to}
use Rattle.ctt_edits.specs.Patterns.{PatternFits, given_or_all, edits_of}
use Rattle.ctt_edits.specs.declared.edit.Edit.{Edit}
use Rattle.ctt_edits.specs.declared.edit.Edit.TheVariants.{Place, Move, Swap}
use Rattle.ctt_edits.specs.declared.offer.Offer.{Offer}
use Rattle.ctt_edits.specs.declared.offer.Offer.TheVariants.{Nothing}
use Rattle.ctt_edits.specs.declared.slot_pattern.SlotPattern.{SlotPattern}
use Rattle.ctt_edits.specs.declared.slot_pattern.SlotPattern.TheVariants.{Place as SlotPlace, Move as SlotMove, Swap as SlotSwap}
use Rattle.ctt_edits.proofs.CheapestLemmas.{edits_fit, range_more, range_end}
use Rattle.ctt_edits.proofs.OfferOrder.{better, best_is}

abbrev leads : ℕ → Edit → Bool
leads x e = target e == x

flat_map_same : {X Y : Type 0} (h k : X → List Y) (xs : List X) → ((x : X) → h x ≡ k x) → flat_map h xs ≡ flat_map k xs
flat_map_same h k [] same = refl
flat_map_same h k (x ∷ xs) same = ap₂ (λ a b. a ++ b) (same x) (flat_map_same h k xs same)

filter-flat_map : {X Y : Type 0} (q : Y → Bool) (h : X → List Y) (xs : List X) → filter q (flat_map h xs) ≡ flat_map (λ x. filter q (h x)) xs
filter-flat_map q h [] = refl
filter-flat_map q h (x ∷ xs) = filter-append q (h x) (flat_map h xs) ∙ ap (λ ys. filter q (h x) ++ ys) (filter-flat_map q h xs)

singles : {X Y : Type 0} (g : X → Y) (xs : List X) → flat_map (λ x. g x ∷ []) xs ≡ map g xs
singles g [] = refl
singles g (x ∷ xs) = ap (λ ys. g x ∷ ys) (singles g xs)

-- of edits by slot, those to slot x
module _ (f : ℕ → ℕ → Edit) (ys : List ℕ) (x : ℕ) (to : (z y : ℕ) → target (f z y) ≡ z) where
  all_lead : (z : ℕ) → z ≡ x → filter (leads x) (map (f z) ys) ≡ map (f x) ys
  all_lead z same =
      filter_every (leads x) (map (f z) ys) (Each-mapped (λ e. leads x e ≡ true) (f z) ys (Each-every (λ y. leads x (f z y) ≡ true) (λ y. ap (λ w. w == x) (to z y) ∙ eq-eqb z x same) ys))
      ∙ ap (λ w. map (f w) ys) same

  none_lead : (z : ℕ) → (z ≡ x → ⊥) → filter (leads x) (map (f z) ys) ≡ []
  none_lead z other = filter_none (leads x) (map (f z) ys) (Each-mapped (λ e. leads x e ≡ false) (f z) ys (Each-every (λ y. leads x (f z y) ≡ false) (λ y. ap (λ w. w == x) (to z y) ∙ ne_eqb z x other) ys))

  no_more : (a m : ℕ) → x < a → filter (leads x) (flat_map (λ z. map (f z) ys) (range_with_len a m)) ≡ []
  no_more a zero lt = refl
  no_more a (suc m) lt =
      filter-append (leads x) (map (f a) ys) (flat_map (λ z. map (f z) ys) (range_with_len (a + 1) m))
      ∙ ap₂ (λ us vs. us ++ vs) (none_lead a (λ e. omega (arith, e, lt))) (no_more (a + 1) m (omega (arith, lt)))

  by_slot : (a m : ℕ) → a ≤ x → x < a + m → filter (leads x) (flat_map (λ z. map (f z) ys) (range_with_len a m)) ≡ map (f x) ys
  by_slot a zero le lt = absurd (omega (arith, le, lt))
  by_slot a (suc m) le lt =
      filter-append (leads x) (map (f a) ys) (flat_map (λ z. map (f z) ys) (range_with_len (a + 1) m))
      ∙ elim (cases_eq a x) [
        | inl same ↦ ap₂ (λ us vs. us ++ vs) (all_lead a same) (no_more (a + 1) m (omega (arith, same))) ∙ append-nil (map (f x) ys)
        | inr other ↦ ap₂ (λ us vs. us ++ vs) (none_lead a other) (by_slot (a + 1) m (omega (arith, le, other)) (omega (arith, lt)))
      ]

one_leads : (g : ℕ → Edit) (x n : ℕ) → ((z : ℕ) → target (g z) ≡ z) → x < n → filter (leads x) (map g (range_with_len 0 n)) ≡ g x ∷ []
one_leads g x n to lt = ap (filter (leads x)) (sym (singles g (range_with_len 0 n))) ∙ by_slot (λ z y. g z) (0 ∷ []) x (λ z y. to z) 0 n (omega arith) (omega (arith, lt))

-- the edits to a slot are those with each choice of the rest
pub edits_to_are : (i : Problem) (p : SlotPattern) (x : ℕ) → x < slot_count i → edits_to i p x ≡ map (edit_to p x) (other_choices i p)
edits_to_are i (SlotPlace c r) x lt = by_slot (Place c) (given_or_all (room_count i) r) x (λ z y. refl) 0 (slot_count i) (omega arith) (omega (arith, lt))
edits_to_are i (SlotMove c s r) x lt = by_slot (Move c s) (given_or_all (room_count i) r) x (λ z y. refl) 0 (slot_count i) (omega arith) (omega (arith, lt))
edits_to_are i (SlotSwap c s) x lt =
    let courses : List ℕ = given_or_all (course_count i) None in
    let slots : List ℕ = given_or_all (slot_count i) None in
    filter-flat_map (leads x) (λ d. map (Swap c s d) slots) courses
    ∙ flat_map_same (λ d. filter (leads x) (map (Swap c s d) slots)) (λ d. Swap c s d x ∷ []) courses (λ d. one_leads (Swap c s d) x (slot_count i) (λ z. refl) lt)
    ∙ singles (λ d. Swap c s d x) courses

-- each of them fits
pub edits_to_fit : (i : Problem) (p : SlotPattern) (x : ℕ) → PatternFits i (pattern_of p) → Each (EditFits i) (edits_to i p x)
edits_to_fit i p x f = Each-filter (EditFits i) (leads x) (edits_of i (pattern_of p)) (edits_fit i (pattern_of p) f)

pub choices_fit_to : (i : Problem) (p : SlotPattern) (x : ℕ) (ys : List ℕ) → PatternFits i (pattern_of p) → x < slot_count i → ys ≡ other_choices i p → Each (EditFits i) (map (edit_to p x) ys)
choices_fit_to i p x ys f lt is = subst (Each (EditFits i)) (edits_to_are i p x lt ∙ ap (map (edit_to p x)) (sym is)) (edits_to_fit i p x f)

-- the next of them, and the end
pub to_more : (p : SlotPattern) (x a b : ℕ) → a < b → map (edit_to p x) (from_to a b) ≡ edit_to p x a ∷ map (edit_to p x) (from_to (a + 1) b)
to_more p x a b lt = ap (map (edit_to p x)) (range_more a b lt)

pub to_end : (p : SlotPattern) (x a b : ℕ) → b ≤ a → map (edit_to p x) (from_to a b) ≡ []
to_end p x a b le = ap (map (edit_to p x)) (range_end a b le)

-- the best offer, after more edits are tried
abbrev pub best_after : Problem → List Placed → Offer → List Edit → Offer
best_after i t b es = fold better b (map (offer i t) es)

pub slot_offer_is : (i : Problem) (t : List Placed) (p : SlotPattern) (x : ℕ) (ys : List ℕ) → x < slot_count i → ys ≡ other_choices i p → best_after i t Nothing (map (edit_to p x) ys) ≡ slot_offer i t p x
slot_offer_is i t p x ys lt is = ap (λ ys. best_after i t Nothing (map (edit_to p x) ys)) is ∙ ap (best_after i t Nothing) (sym (edits_to_are i p x lt)) ∙ best_is (map (offer i t) (edits_to i p x))

-- one more edit, and no more
pub after_more : (i : Problem) (t : List Placed) (p : SlotPattern) (x a b : ℕ) (old : Offer) → a < b → best_after i t old (map (edit_to p x) (from_to a b)) ≡ best_after i t (better old (offer i t (edit_to p x a))) (map (edit_to p x) (from_to (a + 1) b))
after_more i t p x a b old lt = ap (best_after i t old) (to_more p x a b lt)

pub after_end : (i : Problem) (t : List Placed) (p : SlotPattern) (x a b : ℕ) (old : Offer) → b ≤ a → best_after i t old (map (edit_to p x) (from_to a b)) ≡ old
after_end i t p x a b old le = ap (best_after i t old) (to_end p x a b le)

-- the running best after one more edit
module _ (i : Problem) (t : List Placed) (p : SlotPattern) (x a : ℕ) (old made new : Offer) (tested : Bool) (e : Edit) (edit : e ≡ edit_to p x a) (is : made ≡ offer i t e) (test : tested ≡ is_better made old) where
  made_is : made ≡ offer i t (edit_to p x a)
  made_is = is ∙ ap (offer i t) edit

  pub taken : tested ≡ true → new ≡ made → new ≡ better old (offer i t (edit_to p x a))
  taken y same = same ∙ ap (λ b. cond b made old) (sym y ∙ test) ∙ ap (better old) made_is

  pub kept : tested ≡ false → new ≡ old → new ≡ better old (offer i t (edit_to p x a))
  kept n same = same ∙ ap (λ b. cond b made old) (sym n ∙ test) ∙ ap (better old) made_is

pub after_next : (i : Problem) (t : List Placed) (p : SlotPattern) (x a b : ℕ) (old new whole : Offer) → a < b → new ≡ better old (offer i t (edit_to p x a)) → best_after i t old (map (edit_to p x) (from_to a b)) ≡ whole → best_after i t new (map (edit_to p x) (from_to (a + 1) b)) ≡ whole
after_next i t p x a b old new whole lt is invariant = ap (λ o. best_after i t o (map (edit_to p x) (from_to (a + 1) b))) is ∙ sym (after_more i t p x a b old lt) ∙ invariant

-- the offer of one more slot
pub offers_more : (i : Problem) (t : List Placed) (p : SlotPattern) (a b x : ℕ) (old new whole : List Offer) (o : Offer) → a < b → x ≡ a → o ≡ slot_offer i t p x → new ≡ old ++ o ∷ [] → old ++ map (slot_offer i t p) (from_to a b) ≡ whole → new ++ map (slot_offer i t p) (from_to (a + 1) b) ≡ whole
offers_more i t p a b x old new whole o lt same is pushed invariant =
    let rest : List Offer = map (slot_offer i t p) (from_to (a + 1) b) in
    ap (λ ls. ls ++ rest) pushed ∙ append_assoc old (o ∷ []) rest ∙ ap (λ o. old ++ o ∷ rest) (is ∙ ap (slot_offer i t p) same)
    ∙ ap (λ ys. old ++ map (slot_offer i t p) ys) (sym (range_more a b lt)) ∙ invariant
