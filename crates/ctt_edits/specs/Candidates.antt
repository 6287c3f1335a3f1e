-- The edits of a pattern choice by choice, and the n cheapest of a list to which more are added.
use Rattle.std.specs.Prelude.{ℕ, ◌-◌, List, map, take, Some, None}
use Rattle.std.specs.List.{flat_map, fold, range_with_len}
use Rattle.ctt_problem.specs.Lists.{put}
use Rattle.ctt_problem.specs.Problem.{Problem, course_count, slot_count, room_count}
use Rattle.ctt_edits.specs.Patterns.{given_or_all, is_cheaper}
use Rattle.ctt_edits.specs.declared.edit.Edit.{Edit}
use Rattle.ctt_edits.specs.declared.edit.Edit.TheVariants.{Place, Move, Swap, Reroom}
use Rattle.ctt_edits.specs.declared.pattern.Pattern.{Pattern}
use Rattle.ctt_edits.specs.declared.pattern.Pattern.TheVariants.{Place as AnyPlace, Move as AnyMove, Swap as AnySwap, Reroom as AnyReroom}
use Rattle.ctt_edits.specs.declared.priced_edit.PricedEdit.{PricedEdit}

-- the numbers from a up to, not including, b
abbrev pub from_to : ℕ → ℕ → List ℕ
from_to a b = range_with_len a (b - a)

-- the first choices, of a slot or another course
abbrev pub first_choices : Problem → Pattern → List ℕ
first_choices i (AnyPlace c s r) = given_or_all (slot_count i) s
first_choices i (AnyMove c s s2 r) = given_or_all (slot_count i) s2
first_choices i (AnySwap c s) = given_or_all (course_count i) None
first_choices i (AnyReroom c s r) = given_or_all (slot_count i) (Some s)

-- the second choices, of a room or the other slot
abbrev pub second_choices : Problem → Pattern → List ℕ
second_choices i (AnyPlace c s r) = given_or_all (room_count i) r
second_choices i (AnyMove c s s2 r) = given_or_all (room_count i) r
second_choices i (AnySwap c s) = given_or_all (slot_count i) None
second_choices i (AnyReroom c s r) = given_or_all (room_count i) r

-- the edit with two choices
abbrev pub edit_by : Pattern → ℕ → ℕ → Edit
edit_by (AnyPlace c s r) x y = Place c x y
edit_by (AnyMove c s s2 r) x y = Move c s x y
edit_by (AnySwap c s) x y = Swap c s x y
edit_by (AnyReroom c s r) x y = Reroom c x y

-- the edits with the first choice x and each of the second choices ys
abbrev pub edits_with : Pattern → List ℕ → ℕ → List Edit
edits_with p ys x = map (edit_by p x) ys

-- the edits with each of the first choices xs and each of the second choices ys
abbrev pub edits_by : Pattern → List ℕ → List ℕ → List Edit
edits_by p xs ys = flat_map (edits_with p ys) xs

-- the n cheapest edits of a list, after more edits are inserted one by one
abbrev pub n_cheapest : ℕ → List PricedEdit → List PricedEdit → List PricedEdit
n_cheapest n list more = fold (λ cheapest x. take n (put is_cheaper x cheapest)) list more
