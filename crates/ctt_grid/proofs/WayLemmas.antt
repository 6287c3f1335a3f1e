-- A change that fits, up to one of its cells.
use Rattle.std.proofs.Common.{◌≡◌, leb, ℕ, zero, suc, ◌+◌, ◌<◌, true, false, List, [], ◌∷◌, drop, take, length, get_or, Option, Some, ◌∙◌, sym, ap, subst, arith}
use Rattle.std.proofs.lemmas.Bool.{and_parts}
use Rattle.ctt_problem.specs.Problem.{Problem}
use Rattle.ctt_problem.specs.Timetable.{before}
use Rattle.ctt_problem.specs.declared.placed.Placed.{Placed}
use Rattle.ctt_rules.specs.Hard.{Lawful}
use Rattle.ctt_board.specs.Changes.{room_at, apply_at, apply, in_turn, is_change, room_by, CellsFit, ChangeFits}
use Rattle.ctt_board.specs.Ways.{Ready}
use Rattle.ctt_board.specs.declared.cell.Cell.{Cell}
use Rattle.ctt_grid.proofs.CellLemmas.{cell_at}
use Rattle.ctt_board.proofs.RoomLemmas.{rooms_after}
use Rattle.ctt_board.proofs.BetweenLemmas.{ready_at, next_lawful, turn_rest}

pub ready : (i : Problem) (cells : List Cell) (k : ℕ) (x : Cell) (t : List Placed) → k < length cells → x ≡ get_or cells k x → Lawful i t → in_turn false (drop k cells) ≡ true → CellsFit (drop k cells) t → Lawful i (apply (drop k cells) t) → Ready i x.course x.slot x.room t
ready i cells k x t lt is now turn fits h =
    let rest : List Cell = drop (k + 1) cells in
    let split : drop k cells ≡ x ∷ rest = cell_at cells k x lt is in
    let fits' : CellsFit (x ∷ rest) t = subst (λ ys. CellsFit ys t) split fits in
    ready_at i x.course x.slot x.room t now fits'.0
    (next_lawful i x rest t now (subst (λ ys. in_turn false ys ≡ true) split turn) fits' (subst (λ ys. Lawful i (apply ys t)) split h))

pub fits_more : (cells : List Cell) (k : ℕ) (x : Cell) (t : List Placed) → k < length cells → x ≡ get_or cells k x → CellsFit (drop k cells) t → CellsFit (drop (k + 1) cells) (apply_at x.course x.slot x.room t)
fits_more cells k x t lt is fits = (let fits' : CellsFit (x ∷ drop (k + 1) cells) t = subst (λ ys. CellsFit ys t) (cell_at cells k x lt is) fits in fits'.1)

-- a change, up to one of its cells
pub record OnTheWay (i : Problem) (cells : List Cell) (t : List Placed) (k : ℕ) (x : Cell) : Type 0 where
  pub done : CellsFit (take k cells) t
  pub now : Lawful i (apply (take k cells) t)
  pub next : apply (take (suc k) cells) t ≡ apply_at x.course x.slot x.room (apply (take k cells) t)
  pub ready : Ready i x.course x.slot x.room (apply (take k cells) t)

pub on_the_way : (i : Problem) (cells : List Cell) (t : List Placed) (k : ℕ) (x : Cell) → k < length cells → x ≡ get_or cells k x → Lawful i t → in_turn false cells ≡ true → CellsFit cells t → Lawful i (apply cells t) → OnTheWay i cells t k x
on_the_way i [] t k x lt is h turn fits after = absurd (omega (arith, lt))
on_the_way i (y ∷ ys) t zero x lt is h turn fits after =
    let lawful = next_lawful i y ys t h turn fits after in
    record { done = tt; now = h; next = ap (λ z. apply_at z.course z.slot z.room t) (sym is); ready = subst (λ z. Ready i z.course z.slot z.room t) (sym is) (ready_at i y.course y.slot y.room t h fits.0 lawful) }
on_the_way i (y ∷ ys) t (suc k) x lt is h turn fits after =
    let lawful = next_lawful i y ys t h turn fits after in
    let rest = on_the_way i ys (apply_at y.course y.slot y.room t) k x (omega (arith, lt)) is lawful (turn_rest y ys turn) fits.1 after in
    record { done = (fits.0, rest.done); now = rest.now; next = rest.next; ready = rest.ready }

pub way_of : (i p : Problem) (cells change : List Cell) (t : List Placed) (k : ℕ) (x : Cell) → i ≡ p → cells ≡ change → is_change change ≡ true → Lawful p t → ChangeFits p change t → k < length cells → x ≡ get_or cells k x → OnTheWay i cells t k x
way_of i p cells change t k x e same is h fits lt at =
    on_the_way i cells t k x lt at (subst (λ q. Lawful q t) (sym e) h) (rw same (and_parts (leb (length change) 4) (in_turn false change) is).1) (rw same fits.cells_fit) (rw (e, same) fits.lawful)

-- a lecture that is removed, by its room before the cells already done
pub left_there : (done : List Cell) (t : List Placed) (c s r : ℕ) (before last : Option ℕ) → last ≡ room_by done c s before → before ≡ room_at c s t → CellsFit done t → last ≡ Some r → room_at c s (apply done t) ≡ Some r
left_there done t c s r before last e f fits some = rooms_after done t fits c s ∙ sym (e ∙ ap (room_by done c s) f) ∙ some
