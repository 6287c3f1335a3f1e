-- A table of a fixed size.
use Rattle.std.specs.Prelude.{◌≡◌, ◌<◌, ◌≤◌, ℕ, ◌+◌, ◌*◌, cond, ◌&&◌, ◌==◌, List, get_or, refl}
use Rattle.std.specs.Coded.{Coded, code_by, coded×, coded_ℕ, coded_list}

-- rows of one width, stored one after another
pub record Grid (T : Type 0) : Type 0 where
  pub rows : ℕ
  pub width : ℕ
  pub cells : List T

-- the coding of a table by that of its values
abbrev pub grid_code : {T : Type 0} → Coded T → Coded (Grid T)
grid_code {T} code =
    code_by (ℕ × (ℕ × List T)) (coded× coded_ℕ (coded× coded_ℕ (coded_list code))) (λ g. (g.rows, (g.width, g.cells))) (λ p. record { rows = p.0; width = p.1.0; cells = p.1.1 }) (λ _. refl)

module _ {T : Type 0} where
  -- the value in a row and a column; past the end the default
  abbrev pub at : Grid T → ℕ → ℕ → T → T
  at g row column d = get_or g.cells (row * g.width + column) d

-- the table `new` is `old` with w added at each place
pub record AddsAtEach (old new : Grid ℕ) (w : ℕ → ℕ → ℕ) : Type 0 where
  pub rows : new.rows ≡ old.rows
  pub width : new.width ≡ old.width
  pub sums : (r k : ℕ) → k < old.width → at new r k 0 ≡ w r k + at old r k 0

-- 1 at one place, 0 elsewhere
abbrev pub one_at : ℕ → ℕ → ℕ → ℕ → ℕ
one_at row column r k = cond (r == row && k == column) 1 0

-- each count is at most 2,000
abbrev pub CountsAreFew : Grid ℕ → Type 0
CountsAreFew g = (r k : ℕ) → r < g.rows → k < g.width → at g r k 0 ≤ 2000
