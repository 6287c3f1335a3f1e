-- Writes to a table.
use Rattle.std.proofs.Common.{◌≡◌, ◌≢◌, ℕ, suc, ◌+◌, ◌*◌, ◌<◌, ◌≤◌, Bool, true, false, cond, ◌&&◌, ◌==◌, List, length, get_or, set, refl, ◌∙◌, sym, ap, ap₂, arith, inl, inr}
use Rattle.std.proofs.lemmas.Bool.{cases_Bool, cases_eq, cases_order, eq-eqb, ne_eqb, eqb-true, and_parts}
use Rattle.ctt_grid.specs.Tables.{Grid, at, AddsAtEach, one_at}
use Rattle.std.proofs.lemmas.List.{get_or-set_same, get_or-set_other}
use Rattle.std.proofs.Math.Nat.{mul-le-mul_right}

-- a place in an earlier row is another place
before_row : (w r r2 c c2 : ℕ) → c2 < w → r2 < r → r2 * w + c2 ≢ r * w + c
before_row w r r2 c c2 lt less e = (let rows : suc r2 * w ≤ r * w = mul-le-mul_right w less in omega (arith, rows))

pub at_set : {X : Type 0} (cells : List X) (w r c r2 c2 : ℕ) (x d : X) → c < w → c2 < w → r * w + c < length cells → get_or (set cells (r * w + c) x) (r2 * w + c2) d ≡ cond (r2 == r && c2 == c) x (get_or cells (r2 * w + c2) d)
at_set cells w r c r2 c2 x d lt lt2 within = elim (cases_order r2 r) [
  | inl same ↦ elim (cases_eq c2 c) [
    | inl too ↦ (
        let yes1 : (r2 == r) ≡ true = eq-eqb r2 r same in
        let yes2 : (c2 == c) ≡ true = eq-eqb c2 c too in
        rw (yes1, yes2) (ap₂ (λ a b. get_or (set cells (r * w + c) x) (a * w + b) d) same too ∙ get_or-set_same cells (r * w + c) x d within))
    | inr other ↦ (
        let no2 : (c2 == c) ≡ false = ne_eqb c2 c other in
        let rows : r2 * w ≡ r * w = ap (λ a. a * w) same in
        rw no2 (get_or-set_other cells (r * w + c) (r2 * w + c2) x d (λ e. other (omega (arith, rows, e))) ∙ no_and (r2 == r)))
  ]
  | inr (inl less) ↦ (let no' : (r2 == r) ≡ false = ne_eqb r2 r (λ e. omega arith) in rw no' (get_or-set_other cells (r * w + c) (r2 * w + c2) x d (before_row w r r2 c c2 lt2 less)))
  | inr (inr more) ↦ (let no' : (r2 == r) ≡ false = ne_eqb r2 r (λ e. omega arith) in rw no' (get_or-set_other cells (r * w + c) (r2 * w + c2) x d (λ e. before_row w r2 r c2 c lt more (sym e))))
]
  where
    no_and : (b : Bool) → get_or cells (r2 * w + c2) d ≡ cond (b && false) x (get_or cells (r2 * w + c2) d)
    no_and true = refl
    no_and false = refl

-- a place of a row that there is
pub in_table : (w rows r c : ℕ) → r < rows → c < w → r * w + c < rows * w
in_table w rows r c less lt = (let all : suc r * w ≤ rows * w = mul-le-mul_right w less in omega (arith, all))

-- one more at a place
pub set_more : (old new : Grid ℕ) (row column n : ℕ) → new.rows ≡ old.rows → new.width ≡ old.width → n ≡ at old row column 0 + 1 → ((r k d : ℕ) → k < old.width → at new r k d ≡ cond (r == row && k == column) n (at old r k d)) → AddsAtEach old new (one_at row column)
set_more old new row column n rows width is wrote = record { rows = rows; width = width; sums = λ r k lt. wrote r k 0 lt ∙ each r k }
  where
    each : (r k : ℕ) → cond (r == row && k == column) n (at old r k 0) ≡ cond (r == row && k == column) 1 0 + at old r k 0
    each r k = elim (cases_Bool (r == row && k == column)) [
      | inl y ↦ (
          let parts = and_parts (r == row) (k == column) y in
          let here : at old row column 0 ≡ at old r k 0 = ap₂ (λ a b. at old a b 0) (sym (eqb-true r row parts.0)) (sym (eqb-true k column parts.1)) in
          rw y (omega (arith, is, here)))
      | inr no' ↦ rw no' (omega arith)
    ]
