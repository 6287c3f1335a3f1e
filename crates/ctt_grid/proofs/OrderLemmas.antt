-- The place of a lecture in a timetable.
use Rattle.std.proofs.Common.{◌≡◌, ℕ, ◌<◌, true, false, List, length, get_or, sym, arith}
use Rattle.std.specs.List.{insert, position_or_len}
use Rattle.std.proofs.lemmas.List.Sums.{position_or_len_is}
use Rattle.ctt_problem.specs.Timetable.{before, with}
use Rattle.ctt_problem.specs.declared.placed.Placed.{Placed}
use Rattle.ctt_board.proofs.PutLemmas.{put_is}

-- a lecture inserted in its place
pub with_is : (l : Placed) (t : List Placed) → insert t (position_or_len (before l) t) l ≡ with l t
with_is l t = sym (put_is before l t)

-- the place where a search for it stops
pub found_at : (l : Placed) (t : List Placed) (i : ℕ) (d : Placed) → i < length t → ((k : ℕ) (e : Placed) → k < i → before l (get_or t k e) ≡ false) → before l (get_or t i d) ≡ true → i ≡ position_or_len (before l) t
found_at l t i d lt h e = sym (position_or_len_is (before l) t i d (omega arith) (λ k less. h k d less) (λ less. e))

pub found_end : (l : Placed) (t : List Placed) (i : ℕ) → i ≡ length t → ((k : ℕ) (e : Placed) → k < i → before l (get_or t k e) ≡ false) → i ≡ position_or_len (before l) t
found_end l t i same h = sym (position_or_len_is (before l) t i l (omega arith) (λ k less. h k l less) (λ less. absurd (omega arith)))
