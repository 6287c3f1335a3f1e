-- The rooms that are already taken, lecture by lecture.
use Rattle.std.proofs.Common.{◌≡◌, ℕ, ◌+◌, ◌<◌, Bool, ◌&&◌, ◌||◌, ◌==◌, List, [], ◌∷◌, ◌++◌, take, length, get_or, Option, ◌∙◌, sym, ap, arith, append-nil}
use Rattle.std.specs.List.{list_any}
use Rattle.std.specs.Option.{option_to_list}
use Rattle.std.proofs.lemmas.List.{append_assoc, take_more}
use Rattle.std.proofs.lemmas.List.Folds.{list_any_more}
use Rattle.ctt_problem.specs.declared.placed.Placed.{Placed}
use Rattle.ctt_rules.specs.Hard.{share_room}
use Rattle.ctt_rules.specs.Earlier.{in_row}
use Rattle.ctt_rules.proofs.NeighbourLemmas.{any_same}
use Rattle.ctt_findings.specs.Findings.{occupancy_finding, occupancy_from}
use Rattle.ctt_findings.specs.declared.finding.Finding.{Finding}

-- the findings on two lists, one after the other
occupancy_append : (front xs ys : List Placed) → occupancy_from front (xs ++ ys) ≡ occupancy_from front xs ++ occupancy_from (front ++ xs) ys
occupancy_append front [] ys = ap (λ ls. occupancy_from ls ys) (sym (append-nil front))
occupancy_append front (x ∷ xs) ys =
    let here : List Finding = option_to_list (occupancy_finding (list_any (share_room x) front) x) in
    ap (λ fs. here ++ fs) (occupancy_append (front ++ x ∷ []) xs ys ∙ ap (λ ls. occupancy_from (front ++ x ∷ []) xs ++ occupancy_from ls ys) (append_assoc front (x ∷ []) xs))
    ∙ sym (append_assoc here (occupancy_from (front ++ x ∷ []) xs) _)

-- a room is taken in a slot by some of these lectures
abbrev pub is_taken : List Placed → ℕ → ℕ → Bool
is_taken ls s r = list_any (λ (l : Placed). l.slot == s && l.room == r) ls

module _ (t : List Placed) (k : ℕ) (x : Placed) (within : k < length t) (at : x ≡ get_or t k x) where
  -- the table with one more lecture
  pub taken_more : (old new : List (List ℕ)) → ((s r : ℕ) → in_row old s r ≡ is_taken (take k t) s r) → ((s r : ℕ) → in_row new s r ≡ ((x.slot == s && x.room == r) || in_row old s r))
      → (s r : ℕ) → in_row new s r ≡ is_taken (take (k + 1) t) s r
  taken_more old new so_far marked s r =
      marked s r ∙ ap (λ b. (x.slot == s && x.room == r) || b) (so_far s r) ∙ flip (x.slot == s && x.room == r) (is_taken (take k t) s r)
      ∙ ap (λ (y : Placed). is_taken (take k t) s r || (y.slot == s && y.room == r)) at ∙ sym (list_any_more (λ (l : Placed). l.slot == s && l.room == r) t k x within)
    where
      flip : (a b : Bool) → (a || b) ≡ (b || a)
      flip a b = grind arith

  module _ (old : List (List ℕ)) (was : Bool) (this : Option Finding) (so_far : (s r : ℕ) → in_row old s r ≡ is_taken (take k t) s r) (is : was ≡ in_row old x.slot x.room) (finding : this ≡ occupancy_finding was x) where
    -- the lecture's finding, by the lectures before it
    this_is : option_to_list this ≡ option_to_list (occupancy_finding (list_any (share_room x) (take k t)) x)
    this_is =
        ap option_to_list (finding ∙ ap (λ w. occupancy_finding w x) (is ∙ so_far x.slot x.room ∙ any_same (λ (l : Placed). l.slot == x.slot && l.room == x.room) (share_room x) (take k t) (λ l. turn l.slot x.slot l.room x.room)))
      where
        turn : (m n p q : ℕ) → (m == n && p == q) ≡ (n == m && q == p)
        turn m n p q = grind arith

    -- the findings with one more lecture
    pub taken_next : occupancy_from [] (take (k + 1) t) ≡ occupancy_from [] (take k t) ++ option_to_list this
    taken_next =
        ap (occupancy_from []) (take_more t k x within ∙ ap (λ y. take k t ++ y ∷ []) (sym at)) ∙ occupancy_append [] (take k t) (x ∷ [])
        ∙ ap (λ fs. occupancy_from [] (take k t) ++ fs) (append-nil _ ∙ sym this_is)
