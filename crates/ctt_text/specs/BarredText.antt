-- How barred rooms are spelled: a relation between the whole list of words and the marks of the pairs.
use Rattle.std.specs.Prelude.{◌≡◌, ◌<◌, ℕ, ◌*◌, List, [], ◌∷◌, ◌++◌, length, Bool, true, ◌==◌, ◌&&◌, codes}
use Rattle.std.specs.List.{list_any, AllByRecursion as Each}
use Rattle.ctt_text.specs.declared.fault.BarredFault.{BarredFault}
use Rattle.ctt_text.specs.Numbers.{value}
use Rattle.ctt_problem.specs.Problem.{Problem, course_count, room_count, is_among, place_of, is_barred}
use Rattle.ctt_text.specs.Forms.{BreaksAt}
use Rattle.ctt_text.specs.InstanceText.{IsUpTo}
use Rattle.ctt_text.specs.SideFile.{spelled_entries}
use Rattle.ctt_text.specs.BarredPlaces.{barred_rooms, ends_early}

-- the words of a pair
pub record BarredWords : Type 0 where
  pub course : List ℕ
  pub room : List ℕ

-- the words of a pair in their order
abbrev pub spelled_barred : BarredWords → List (List ℕ)
spelled_barred w = w.course ∷ w.room ∷ []

-- the whole text: the number of pairs, the pairs, and the final word
abbrev pub spelled_pairs : List ℕ → List BarredWords → List (List ℕ)
spelled_pairs count given = spelled_entries (codes "Barred:") spelled_barred count given

-- the pair names a known course and a known room
abbrev pub IsBarredPair : Problem → BarredWords → Type 0
IsBarredPair i w = (is_among i.course_names w.course ≡ true) × (is_among i.room_names w.room ≡ true)

-- the pair names this course and this room
abbrev pub bars : Problem → ℕ → ℕ → BarredWords → Bool
bars i c r w = place_of i.course_names w.course == c && place_of i.room_names w.room == r

-- The words begin with as many pairs as they state, of known courses and rooms, and exactly the
-- listed pairs are marked; words after the final END. are ignored.
pub record BarSpells (i : Problem) (words : List (List ℕ)) (table : List Bool) : Type 0 where
  pub count : List ℕ
  pub given : List BarredWords
  pub rest : List (List ℕ)
  pub all : words ≡ spelled_pairs count given ++ rest
  pub few : IsUpTo 2000000 count
  pub counted : value count ≡ length given
  pub pairs : Each (IsBarredPair i) given
  pub marks : length table ≡ course_count i * room_count i
  pub barred : (c r : ℕ) → c < course_count i → r < room_count i → is_barred (record i { barred = table }) c r ≡ list_any (bars i c r) given

-- The words before word k obey the rules of their places, and word k breaks the rule of its place,
-- or is missing, with this fault.
abbrev pub BarBreaksAt : Problem → List (List ℕ) → ℕ → BarredFault → Type 0
BarBreaksAt i words k fault = BreaksAt ends_early (barred_rooms i) words k fault
