-- Marks at indices of a table.
use Rattle.std.proofs.Common.{◌≡◌, ℕ, ◌+◌, ◌*◌, ◌/◌, ◌%◌, ◌<◌, List, [], ◌∷◌, length, Bool, true, false, ◌||◌, ◌&&◌, ◌==◌, refl, sym, ap, subst, ◌∙◌, arith}
use Rattle.std.specs.Prelude.{fold, replicate, get_or, slice_set}
use Rattle.std.specs.List.{list_any}
use Rattle.std.proofs.lemmas.List.{get_or-set_other, length-set, get_or-replicate, length-replicate, ext_get_or}
use Rattle.std.proofs.lemmas.Grind.{get_or-set_at}
use Rattle.std.proofs.lemmas.Bool.{eqb-true, eqb-false, eq-eqb, and_parts}
use Rattle.std.proofs.lemmas.Nat.{same_from_place, div-add-mod', div_below, mod_below}
use Rattle.ctt_problem.proofs.TableLemmas.{bool_case}

module _ {W : Type 0} (place : W → ℕ) where
  -- the table with a mark at the index of each element
  abbrev pub marked : List Bool → List W → List Bool
  marked table ws = fold (λ s w. slice_set s (place w) true) table ws

  -- the length of the table is unchanged
  pub marked_length : (ws : List W) (s : List Bool) → length (marked s ws) ≡ length s
  marked_length [] s = refl
  marked_length (w ∷ ws) s = marked_length ws (slice_set s (place w) true) ∙ length-set s (place w) true

  -- one more mark changes only its own index
  mark_here : (a b c : Bool) → b ≡ true → (a || true) ≡ (b || a || c)
  mark_here true b c h = rw h refl
  mark_here false b c h = rw h refl

  mark_there : (a b c : Bool) → b ≡ false → (a || c) ≡ (b || a || c)
  mark_there a b c h = rw h refl

  -- an index is marked if it is that of an element, or was marked before
  pub marked_at : (ws : List W) (s : List Bool) (k : ℕ) → k < length s → get_or (marked s ws) k false ≡ (list_any (λ w. place w == k) ws || get_or s k false)
  marked_at [] s k lt = refl
  marked_at (w ∷ ws) s k lt =
      let rest : get_or (marked s (w ∷ ws)) k false ≡ (list_any (λ w. place w == k) ws || get_or (slice_set s (place w) true) k false)
      = marked_at ws (slice_set s (place w) true) k (subst (λ n. k < n) (sym (length-set s (place w) true)) lt) in
      bool_case _ (place w == k)
      (λ is.
      let e : place w ≡ k = eqb-true (place w) k is in
      let here : get_or (slice_set s (place w) true) k false ≡ true = get_or-set_at s (place w) k true false (sym e) (subst (λ n. n < length s) (sym e) lt) in
      rest ∙ ap (λ b. list_any (λ w. place w == k) ws || b) here ∙ mark_here (list_any (λ w. place w == k) ws) (place w == k) (get_or s k false) is)
      (λ isnt.
      let there : get_or (slice_set s (place w) true) k false ≡ get_or s k false = get_or-set_other s (place w) k true false (λ e. eqb-false (place w) k isnt (sym e)) in
      rest ∙ ap (λ b. list_any (λ w. place w == k) ws || b) there ∙ mark_there (list_any (λ w. place w == k) ws) (place w == k) (get_or s k false) isnt)

  -- in a table that had no marks, an index is marked exactly if it is that of an element
  pub marks_made : (n : ℕ) (ws : List W) (k : ℕ) → k < n → get_or (marked (replicate n false) ws) k false ≡ list_any (λ w. place w == k) ws
  marks_made n ws k lt =
      marked_at ws (replicate n false) k (subst (λ m. k < m) (sym (length-replicate n false)) lt)
      ∙ ap (λ b. list_any (λ w. place w == k) ws || b) (get_or-replicate n k false false lt)
      ∙ or-false (list_any (λ w. place w == k) ws)
    where
      or-false : (b : Bool) → (b || false) ≡ b
      or-false true = refl
      or-false false = refl

  -- the table has its original length
  pub marks_many : (n : ℕ) (ws : List W) → length (marked (replicate n false) ws) ≡ n
  marks_many n ws = marked_length ws (replicate n false) ∙ length-replicate n false

  -- a table with these marks is equal to it
  pub marks_same : (n : ℕ) (ws : List W) (table : List Bool) → length table ≡ n → ((k : ℕ) → k < n → get_or table k false ≡ list_any (λ w. place w == k) ws) → marked (replicate n false) ws ≡ table
  marks_same n ws table len at = ext_get_or false (marked (replicate n false) ws) table (marks_many n ws ∙ sym len) (λ k lt.
      let below : k < n = subst (λ m. k < m) (marks_many n ws) lt in
      marks_made n ws k below ∙ sym (at k below))

-- an index in rows of n determines the row and the column
pub place_in_rows : (n row column row' column' : ℕ) → column < n → column' < n → (row * n + column == row' * n + column') ≡ (row == row' && column == column')
place_in_rows n row column row' column' in_row in_row' = bool_case _ (row * n + column == row' * n + column')
    (λ is.
    let e = same_from_place row column row' column' n in_row in_row' (eqb-true (row * n + column) (row' * n + column') is) in
    rw (is, eq-eqb row row' e.0, eq-eqb column column' e.1) refl)
    (λ isnt. rw isnt (bool_case _ (row == row' && column == column')
    (λ both.
    let parts = and_parts (row == row') (column == column') both in
    absurd (eqb-false (row * n + column) (row' * n + column') isnt (rw (eqb-true row row' parts.0, eqb-true column column' parts.1) refl)))
    (λ b. sym b)))

-- each index in m rows of n has a row and a column
pub record Row (m n k : ℕ) : Type 0 where
  pub row : ℕ
  pub column : ℕ
  pub row_below : row < m
  pub column_below : column < n
  pub place : row * n + column ≡ k

-- if there is an index, there is a column
pub some_columns : (m n k : ℕ) → k < m * n → 0 < n
some_columns m n k lt = grind arith

-- the row and the column by division
pub row_of : (m n k : ℕ) → k < m * n → Row m n k
row_of m n k lt =
    let some : 0 < n = some_columns m n k lt in
    record { row = k / n; column = k % n; row_below = div_below k n m some lt; column_below = mod_below k n some; place = div-add-mod' k n }
