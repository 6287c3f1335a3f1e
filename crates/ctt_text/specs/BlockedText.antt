-- How closures are spelled: a relation between the whole list of words and the marks of courses and
-- rooms.
use Rattle.std.specs.Prelude.{◌≡◌, ◌⊎◌, ◌<◌, ℕ, ◌*◌, List, [], ◌∷◌, ◌++◌, length, Bool, true, ◌==◌, ◌&&◌, ◌||◌, codes}
use Rattle.std.specs.List.{list_any, AllByRecursion as Each}
use Rattle.std.specs.Str.{bytes_eq}
use Rattle.ctt_text.specs.declared.fault.BlockedFault.{BlockedFault}
use Rattle.ctt_text.specs.Numbers.{value}
use Rattle.ctt_text.specs.Places.{is_all}
use Rattle.ctt_problem.specs.Problem.{Problem, course_of, course_count, room_count, slot_count, day_of, period_of, is_among, place_of, is_closed, is_blocked}
use Rattle.ctt_text.specs.Forms.{BreaksAt}
use Rattle.ctt_text.specs.InstanceText.{IsUpTo, IsBelow}
use Rattle.ctt_text.specs.SideFile.{spelled_entries}
use Rattle.ctt_text.specs.BlockedPlaces.{closures, ends_early}

-- the words of an entry
pub record BlockedWords : Type 0 where
  pub kind : List ℕ
  pub name : List ℕ
  pub day : List ℕ
  pub period : List ℕ

-- the words of an entry in their order
abbrev pub spelled_blocked : BlockedWords → List (List ℕ)
spelled_blocked w = w.kind ∷ w.name ∷ w.day ∷ w.period ∷ []

-- the whole text: the number of entries, the entries, and the final word
abbrev pub spelled_closures : List ℕ → List BlockedWords → List (List ℕ)
spelled_closures count given = spelled_entries (codes "Blocked:") spelled_blocked count given

-- the first word is this kind
abbrev pub is_kind : List ℕ → BlockedWords → Bool
is_kind kind w = bytes_eq w.kind kind

-- the entry is of this kind, and names one of these
abbrev pub IsOf : List ℕ → List (List ℕ) → BlockedWords → Type 0
IsOf kind names w = (w.kind ≡ kind) × (is_among names w.name ≡ true)

-- the word is `*`, or a number below this limit
abbrev pub IsAllOrBelow : ℕ → List ℕ → Type 0
IsAllOrBelow limit word = (word ≡ codes "*") ⊎ IsBelow limit word

-- the entry names a room, a teacher or a course, and a day and a period, or all of them
pub record IsBlockedEntry (i : Problem) (w : BlockedWords) : Type 0 where
  pub named : IsOf (codes "room") i.room_names w ⊎ (IsOf (codes "teacher") i.teacher_names w ⊎ IsOf (codes "course") i.course_names w)
  pub day : IsAllOrBelow i.days w.day
  pub period : IsAllOrBelow i.periods w.period

-- the word is `*`, or this number
abbrev pub says : List ℕ → ℕ → Bool
says word n = is_all word || n == value word

-- the entry is about the day and the period of the slot
abbrev pub covers : Problem → ℕ → BlockedWords → Bool
covers i s w = says w.day (day_of i s) && says w.period (period_of i s)

-- the entry is about the slot, and about the course or its teacher
abbrev pub closes : Problem → ℕ → ℕ → BlockedWords → Bool
closes i c s w = ((is_kind (codes "course") w && c == place_of i.course_names w.name) || (is_kind (codes "teacher") w && (course_of i c).teacher == place_of i.teacher_names w.name)) && covers i s w

-- the entry is about the slot, and about the room
abbrev pub blocks : Problem → ℕ → ℕ → BlockedWords → Bool
blocks i r s w = (is_kind (codes "room") w && r == place_of i.room_names w.name) && covers i s w

-- The words begin with as many entries as they state, of known rooms, teachers and courses, and
-- exactly what some entry is about is marked; words after the final END. are ignored.
pub record BlockSpells (i : Problem) (words : List (List ℕ)) (closed blocked : List Bool) : Type 0 where
  pub count : List ℕ
  pub given : List BlockedWords
  pub rest : List (List ℕ)
  pub all : words ≡ spelled_closures count given ++ rest
  pub few : IsUpTo 2000000 count
  pub counted : value count ≡ length given
  pub entries : Each (IsBlockedEntry i) given
  pub courses_marked : length closed ≡ course_count i * slot_count i
  pub rooms_marked : length blocked ≡ room_count i * slot_count i
  pub courses : (c s : ℕ) → c < course_count i → s < slot_count i → is_closed (record i { closed = closed }) c s ≡ list_any (closes i c s) given
  pub rooms : (r s : ℕ) → r < room_count i → s < slot_count i → is_blocked (record i { blocked = blocked }) r s ≡ list_any (blocks i r s) given

-- The words before word k obey the rules of their places, and word k breaks the rule of its place,
-- or is missing, with this fault.
abbrev pub BlockBreaksAt : Problem → List (List ℕ) → ℕ → BlockedFault → Type 0
BlockBreaksAt i words k fault = BreaksAt ends_early (closures i) words k fault
