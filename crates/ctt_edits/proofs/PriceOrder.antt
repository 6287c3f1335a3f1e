-- Edits in order of price.
use Rattle.std.proofs.Common.{◌≡◌, ℤ, Bool, true, false, List, [], ◌∷◌, ◌++◌, refl, ◌∙◌, sym, ap, arith, inl, inr}
use Rattle.std.specs.Int.Signed.{lt_z}
use Rattle.std.specs.List.{filter, fold, AllByRecursion as Each}
use Rattle.std.specs.Ordering.{int_eq}
use Rattle.std.proofs.lemmas.Bool.{cases_Bool}
use Rattle.std.proofs.lemmas.Int.{ints}
use Rattle.std.proofs.lemmas.List.{append-nil, append_assoc}
use Rattle.ctt_problem.specs.Lists.{Pairwise, put}
use Rattle.ctt_board.proofs.PutLemmas.{filter-put_no, filter-put_yes, Pairwise-put}
use Rattle.ctt_edits.specs.EditLaws.{PricesAscend}
use Rattle.ctt_edits.specs.Patterns.{is_cheaper}
use Rattle.ctt_edits.specs.declared.priced_edit.PricedEdit.{PricedEdit}

-- neither is dearer than the next
abbrev pub Ascends : List PricedEdit → Type 0
Ascends = Pairwise (λ (x y : PricedEdit). is_cheaper y x ≡ false)

less_not_more : (a b : ℤ) → lt_z a b ≡ true → lt_z b a ≡ false
less_not_more a b h = grind (arith, ints)

less_than_more : (a b c : ℤ) → lt_z a b ≡ true → lt_z c b ≡ false → lt_z a c ≡ true
less_than_more a b c h k = grind (arith, ints)

not_less_itself : (a b v : ℤ) → int_eq a v ≡ true → int_eq b v ≡ true → lt_z a b ≡ false
not_less_itself a b v h k = grind (arith, ints)

each : {X : Type 0} (P : X → Type 0) → ((x : X) → P x) → (xs : List X) → Each P xs
each P h [] = tt
each P h (x ∷ xs) = (h x, each P h xs)

put_ascends : (x : PricedEdit) (list : List PricedEdit) → Ascends list → Ascends (put is_cheaper x list)
put_ascends x list h =
    Pairwise-put (λ a b. is_cheaper b a ≡ false) is_cheaper x list
    (λ y z k r. less_not_more x.price z.price (less_than_more x.price y.price z.price k r))
    (each (λ y. is_cheaper x y ≡ true → is_cheaper y x ≡ false) (λ y. less_not_more x.price y.price) list)
    (each (λ y. is_cheaper x y ≡ false → is_cheaper x y ≡ false) (λ y k. k) list) h

-- more edits inserted in a list
abbrev pub inserted : List PricedEdit → List PricedEdit → List PricedEdit
inserted list xs = fold (λ ls x. put is_cheaper x ls) list xs

ascends : (list xs : List PricedEdit) → Ascends list → Ascends (inserted list xs)
ascends list [] h = h
ascends list (x ∷ xs) h = ascends (put is_cheaper x list) xs (put_ascends x list h)

-- among edits that are not dearer it comes last
put_last : (x : PricedEdit) (list : List PricedEdit) → Each (λ y. is_cheaper x y ≡ false) list → put is_cheaper x list ≡ list ++ x ∷ []
put_last x [] h = refl
put_last x (y ∷ ys) h = rw h.0 (ap (λ zs. y ∷ zs) (put_last x ys h.1))

module _ (v : ℤ) where
  abbrev has_price : PricedEdit → Bool
  has_price x = int_eq x.price v

  -- those of one price are not dearer than one of them
  none_dearer : (x : PricedEdit) (list : List PricedEdit) → has_price x ≡ true → Each (λ y. is_cheaper x y ≡ false) (filter has_price list)
  none_dearer x [] h = tt
  none_dearer x (y ∷ ys) h = elim (cases_Bool (has_price y)) [
    | inl b ↦ rw b (not_less_itself x.price y.price v h b, none_dearer x ys h)
    | inr b ↦ rw b (none_dearer x ys h)
  ]

  same_put : (x : PricedEdit) (list : List PricedEdit) → Ascends list → filter has_price (put is_cheaper x list) ≡ filter has_price list ++ filter has_price (x ∷ [])
  same_put x list h = elim (cases_Bool (has_price x)) [
    | inl b ↦ rw b (filter-put_yes has_price is_cheaper (λ k m n. less_than_more k.price m.price n.price) x list b h ∙ put_last x (filter has_price list) (none_dearer x list b))
    | inr b ↦ rw b (filter-put_no has_price is_cheaper x list b ∙ sym (append-nil (filter has_price list)))
  ]

  front : (x : PricedEdit) (xs : List PricedEdit) → filter has_price (x ∷ []) ++ filter has_price xs ≡ filter has_price (x ∷ xs)
  front x xs = elim (cases_Bool (has_price x)) [ inl b ↦ rw b refl | inr b ↦ rw b refl ]

  same_price : (list xs : List PricedEdit) → Ascends list → filter has_price (inserted list xs) ≡ filter has_price list ++ filter has_price xs
  same_price list [] h = sym (append-nil (filter has_price list))
  same_price list (x ∷ xs) h =
      same_price (put is_cheaper x list) xs (put_ascends x list h)
      ∙ ap (λ ls. ls ++ filter has_price xs) (same_put x list h)
      ∙ append_assoc (filter has_price list) (filter has_price (x ∷ [])) (filter has_price xs)
      ∙ ap (λ ls. filter has_price list ++ ls) (front x xs)

pub prices_ascend : PricesAscend
prices_ascend list = (ascends [] list tt, λ price. same_price price [] list tt)
