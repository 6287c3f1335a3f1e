-- Which entry of a text a word is in, and which of its fields: what a line of a fault says first.
use Rattle.std.specs.Prelude.{ℕ, Bool, zero, suc, ◌+◌, ◌-◌, ◌*◌, ◌/◌, ◌%◌, List, [], ◌++◌, codes, drop, nat_lt, ◌==◌, ◌||◌, if◌then◌else◌}
use Rattle.std.specs.Fmt.{decimal}
use Rattle.ctt_text.specs.Sections.{after_rooms, section_of, stated}
use Rattle.ctt_text.specs.declared.sections.Section.{Section}
use Rattle.ctt_text.specs.declared.sections.Section.TheVariants.{Courses, Rooms, Curricula, Unavailability}

-- an entry by its number, from 1, among so many, and one of its fields
abbrev pub entry_text : List ℕ → ℕ → ℕ → List ℕ → List ℕ
entry_text kind number count field = kind ++ (codes " " ++ (decimal number ++ (codes " of " ++ (decimal count
    ++ (codes ": " ++ (field ++ codes ": "))))))

-- ---- the fields of entries, counted from 0

abbrev pub course_field : ℕ → List ℕ
course_field k = if k == 0 then codes "name"
    else if k == 1 then codes "teacher"
    else if k == 2 then codes "lectures"
    else if k == 3 then codes "days"
    else codes "students"

abbrev pub room_field : ℕ → List ℕ
room_field k = if k == 0 then codes "name" else codes "seats"

abbrev pub curriculum_field : ℕ → List ℕ
curriculum_field k = if k == 0 then codes "name" else if k == 1 then codes "number of courses" else codes "course"

abbrev pub slot_field : ℕ → List ℕ
slot_field k = if k == 0 then codes "course" else if k == 1 then codes "day" else codes "period"

abbrev pub lecture_field : ℕ → List ℕ
lecture_field k = if k == 0 then codes "course"
    else if k == 1 then codes "room"
    else if k == 2 then codes "day"
    else codes "period"

abbrev pub pair_field : ℕ → List ℕ
pair_field k = if k == 0 then codes "course" else codes "room"

abbrev pub closure_field : ℕ → List ℕ
closure_field k = if k == 0 then codes "kind"
    else if k == 1 then codes "name"
    else if k == 2 then codes "day"
    else codes "period"

-- ---- the entries

-- of so many curricula, of which `done` are before these words: the curriculum that has word k of
-- them, and the number of the word there, all counted from 0
unfoldable pub curriculum_in : ℕ → ℕ → ℕ → List (List ℕ) → ℕ × ℕ
curriculum_in zero done k words = (done, k)
curriculum_in (suc count) done k words = if nat_lt k (2 + stated 2 words) then (done, k)
    else curriculum_in count (done + 1) (k - (2 + stated 2 words)) (drop (2 + stated 2 words) words)

-- a place among the words of the curricula
abbrev pub curriculum_at : ℕ × ℕ → ℕ → List ℕ
curriculum_at found count = entry_text (codes "curriculum") (found.0 + 1) count (curriculum_field found.1)

-- a place in a section; nothing of a word that is in no entry
abbrev pub section_entry : List (List ℕ) → Section → ℕ → List ℕ
section_entry words Courses k = entry_text (codes "course") (k / 5 + 1) (stated 4 words) (course_field (k % 5))
section_entry words Rooms k = entry_text (codes "room") (k / 2 + 1) (stated 6 words) (room_field (k % 2))
section_entry words Curricula k = curriculum_at (curriculum_in (stated 12 words) 0 k (after_rooms words)) (stated 12 words)
section_entry words Unavailability k = entry_text (codes "unavailability") (k / 3 + 1) (stated 14 words) (slot_field (k % 3))
section_entry words _ k = []

-- the entry of word n of an instance
abbrev pub instance_entry : List (List ℕ) → ℕ → List ℕ
instance_entry words n = section_entry words (section_of n words).0 (section_of n words).1

-- the entry of word n of a solution, which does not state how many it has
abbrev pub lecture_entry : ℕ → List ℕ
lecture_entry n = codes "lecture " ++ (decimal ((n - 1) / 4 + 1) ++ (codes ": " ++ (lecture_field ((n - 1) % 4) ++ codes ": ")))

-- word n of a side file whose entries have so many words is in no entry
abbrev pub is_aside : ℕ → List (List ℕ) → ℕ → Bool
is_aside len words n = nat_lt n 3 || nat_lt (2 + len * stated 2 words) n

-- the entry of word n of barred rooms
abbrev pub pair_entry : List (List ℕ) → ℕ → List ℕ
pair_entry words n = if is_aside 2 words n then []
    else entry_text (codes "pair") ((n - 3) / 2 + 1) (stated 2 words) (pair_field ((n - 3) % 2))

-- the entry of word n of closures
abbrev pub closure_entry : List (List ℕ) → ℕ → List ℕ
closure_entry words n = if is_aside 4 words n then []
    else entry_text (codes "entry") ((n - 3) / 4 + 1) (stated 2 words) (closure_field ((n - 3) % 4))
