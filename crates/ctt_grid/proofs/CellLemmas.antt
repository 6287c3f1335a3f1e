-- A change, made cell by cell.
use Rattle.std.proofs.Common.{◌≡◌, ℕ, ◌+◌, ◌<◌, ◌≤◌, true, false, List, [], ◌∷◌, drop, length, get_or, Option, Some, None, sym, ap, subst, ◌∙◌, arith, is_some}
use Rattle.std.proofs.lemmas.List.{drop_more}
use Rattle.ctt_problem.specs.Timetable.{before}
use Rattle.ctt_problem.specs.declared.placed.Placed.{Placed}
use Rattle.ctt_board.specs.Changes.{apply, apply_at, in_turn}
use Rattle.ctt_board.specs.declared.cell.Cell.{Cell}
use Rattle.ctt_board.proofs.PutLemmas.{length-put}
use Rattle.ctt_board.proofs.BetweenLemmas.{in_turn_later}

-- additions alone make a timetable no shorter
additions : (cells : List Cell) (t : List Placed) → in_turn true cells ≡ true → length t ≤ length (apply cells t)
additions [] t h = omega arith
additions (x ∷ xs) t h = at x.room h (additions xs)
  where
    at : (o : Option ℕ) → in_turn true (record { course = x.course; slot = x.slot; room = o } ∷ xs) ≡ true → ((u : List Placed) → in_turn true xs ≡ true → length u ≤ length (apply xs u)) → length t ≤ length (apply xs (apply_at x.course x.slot o t))
    at None h more = cc
    at (Some r) h more = omega (arith, more (apply_at x.course x.slot (Some r) t) h, length-put before (record { course = x.course; slot = x.slot; room = r }) t)

-- so there is capacity for the first of them
pub room_for : (c s r : ℕ) (rest : List Cell) (t : List Placed) → in_turn true rest ≡ true → length t < length (apply rest (apply_at c s (Some r) t))
room_for c s r rest t h = omega (arith, additions rest (apply_at c s (Some r) t) h, length-put before (record { course = c; slot = s; room = r }) t)

-- the next cell of a list, and those after it
pub cell_at : (cells : List Cell) (k : ℕ) (x : Cell) → k < length cells → x ≡ get_or cells k x → drop k cells ≡ x ∷ drop (k + 1) cells
cell_at cells k x lt is = drop_more cells k x lt ∙ ap (λ y. y ∷ drop (k + 1) cells) (sym is)

turn_at : (cells : List Cell) (k : ℕ) (x : Cell) → k < length cells → x ≡ get_or cells k x → in_turn false (drop k cells) ≡ true → in_turn (is_some x.room) (drop (k + 1) cells) ≡ true
turn_at cells k x lt is h = subst (λ ys. in_turn false ys ≡ true) (cell_at cells k x lt is) h

-- the cells that are left after one more
pub made_more : (cells : List Cell) (k : ℕ) (x : Cell) (t u : List Placed) → k < length cells → x ≡ get_or cells k x → apply (drop k cells) t ≡ u → apply (drop (k + 1) cells) (apply_at x.course x.slot x.room t) ≡ u
made_more cells k x t u lt is h = sym (ap (λ ys. apply ys t) (cell_at cells k x lt is)) ∙ h

pub turn_more : (cells : List Cell) (k : ℕ) (x : Cell) → k < length cells → x ≡ get_or cells k x → in_turn false (drop k cells) ≡ true → in_turn false (drop (k + 1) cells) ≡ true
turn_more cells k x lt is h = in_turn_later (is_some x.room) (drop (k + 1) cells) (turn_at cells k x lt is h)

-- there is capacity for an addition if there is for the timetable at the end
pub room_now : (cells : List Cell) (k : ℕ) (x : Cell) (r : ℕ) (t u : List Placed) → k < length cells → x ≡ get_or cells k x → x.room ≡ Some r → apply (drop k cells) t ≡ u → in_turn false (drop k cells) ≡ true → length t < length u
room_now cells k x r t u lt is some h turn =
    let rest : List Cell = drop (k + 1) cells in
    let next : apply rest (apply_at x.course x.slot (Some r) t) ≡ u = ap (λ o. apply rest (apply_at x.course x.slot o t)) (sym some) ∙ made_more cells k x t u lt is h in
    let left : in_turn true rest ≡ true = ap (λ o. in_turn (is_some o) rest) (sym some) ∙ turn_at cells k x lt is turn in
    let more : length t < length (apply rest (apply_at x.course x.slot (Some r) t)) = room_for x.course x.slot r rest t left in
    omega (arith, ap length next)
