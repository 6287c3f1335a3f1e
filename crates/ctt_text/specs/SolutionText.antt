-- How a timetable is spelled: a relation between the whole list of words and the timetable.
use Rattle.std.specs.Prelude.{◌≡◌, ℕ, List, [], ◌∷◌, map, flat_map, true, false, ◌==◌, ◌&&◌}
use Rattle.std.specs.List.{AllByRecursion as Each}
use Rattle.ctt_text.specs.declared.fault.SolutionFault.{SolutionFault}
use Rattle.ctt_problem.specs.declared.placed.Placed.{Placed}
use Rattle.ctt_text.specs.Numbers.{value}
use Rattle.ctt_problem.specs.Lists.{Pairwise}
use Rattle.ctt_problem.specs.Problem.{Problem, is_among, place_of, slot_of}
use Rattle.ctt_problem.specs.Timetable.{Ascending, SameLectures}
use Rattle.ctt_text.specs.Forms.{BreaksAt}
use Rattle.ctt_text.specs.InstanceText.{IsBelow}
use Rattle.ctt_text.specs.SolutionPlaces.{solution, cut}

-- the words of an entry
pub record EntryWords : Type 0 where
  pub course : List ℕ
  pub room : List ℕ
  pub day : List ℕ
  pub period : List ℕ

-- the words of an entry in their order
abbrev pub spelled_entry : EntryWords → List (List ℕ)
spelled_entry w = w.course ∷ w.room ∷ w.day ∷ w.period ∷ []

-- the entry names a known course and a known room, and a day and a period in range
abbrev pub IsEntry : Problem → EntryWords → Type 0
IsEntry i w = (is_among i.course_names w.course ≡ true) × (is_among i.room_names w.room ≡ true) × IsBelow i.days w.day × IsBelow i.periods w.period

-- the lecture that an entry describes
abbrev pub lecture_of : Problem → EntryWords → Placed
lecture_of i w = record { course = place_of i.course_names w.course; slot = slot_of i (value w.day) (value w.period); room = place_of i.room_names w.room }

-- no two lectures are of the same course in the same slot
abbrev pub AreApart : List Placed → Type 0
AreApart ls = Pairwise (λ a b. (a.course == b.course && a.slot == b.slot) ≡ false) ls

-- The words are entries of four words, with distinct pairs of course and slot, and t is the
-- ascending list of their lectures.
pub record SolSpells (i : Problem) (words : List (List ℕ)) (t : List Placed) : Type 0 where
  pub given : List EntryWords
  pub all : words ≡ flat_map spelled_entry given
  pub entries : Each (IsEntry i) given
  pub apart : AreApart (map (lecture_of i) given)
  pub ascending : Ascending t
  pub same : SameLectures t (map (lecture_of i) given)

-- The words before word k obey the rules of their places, and word k breaks the rule of its place,
-- or is missing, with this fault.
abbrev pub SolutionBreaksAt : Problem → List (List ℕ) → ℕ → SolutionFault → Type 0
SolutionBreaksAt i words k fault = BreaksAt cut (solution i words) words k fault
