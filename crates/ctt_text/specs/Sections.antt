-- The sections of an instance's text, by what its words state of their lengths.
use Rattle.std.specs.Prelude.{ℕ, zero, suc, ◌+◌, ◌-◌, ◌*◌, ◌%◌, List, [], ◌∷◌, drop, codes, nat_le, nat_lt, slice_index_or, ◌==◌, if◌then◌else◌}
use Rattle.ctt_text.specs.Numbers.{number_of}
use Rattle.ctt_text.specs.Places.{meant}
use Rattle.ctt_text.specs.declared.sections.Section.{Section}
use Rattle.ctt_text.specs.declared.sections.Section.TheVariants.{Header, CoursesHeading, Courses, RoomsHeading, Rooms, CurriculaHeading, Curricula, UnavailabilityHeading, Unavailability, End}

-- word n, counted from 1; empty if there is none
abbrev pub nth_word : ℕ → List (List ℕ) → List ℕ
nth_word n words = slice_index_or words (n - 1) []

-- the number that word n states, or 0
abbrev pub stated : ℕ → List (List ℕ) → ℕ
stated n words = meant 0 (number_of (nth_word n words))

-- the length in words of so many curricula: a name, a number, and so many courses
unfoldable pub curricula_len : ℕ → List (List ℕ) → ℕ
curricula_len zero words = 0
curricula_len (suc count) words = 2 + stated 2 words + curricula_len count (drop (2 + stated 2 words) words)

-- the words after CURRICULA:
abbrev pub after_rooms : List (List ℕ) → List (List ℕ)
after_rooms words = drop (17 + 5 * stated 4 words + 2 * stated 6 words) words

-- the sections after the header in their order, with their lengths in words
abbrev pub later_sections : List (List ℕ) → List (Section × ℕ)
later_sections words =
    (CoursesHeading, 1) ∷ (Courses, 5 * stated 4 words)
    ∷ (RoomsHeading, 1) ∷ (Rooms, 2 * stated 6 words)
    ∷ (CurriculaHeading, 1) ∷ (Curricula, curricula_len (stated 12 words) (after_rooms words))
    ∷ (UnavailabilityHeading, 1) ∷ (Unavailability, 3 * stated 14 words)
    ∷ []

-- the section that has place k, and its number there, both counted from 0
abbrev pub section_in : ℕ → List (Section × ℕ) → Section × ℕ
section_in k [] = (End, k)
section_in k (section ∷ rest) = if nat_lt k section.1 then (section.0, k) else section_in (k - section.1) rest

-- the section of word n, counted from 1, and the number of the word there, counted from 0
abbrev pub section_of : ℕ → List (List ℕ) → Section × ℕ
section_of n words = if nat_le n 14 then (Header, n - 1) else section_in (n - 15) (later_sections words)

-- where words end that lack this word of a section
abbrev pub unended : Section → ℕ → List ℕ
unended Header k = codes "in the header"
unended CoursesHeading k = codes "before COURSES:"
unended Courses k = if k % 5 == 0 then codes "before a course, which has five" else codes "in a course, which has five"
unended RoomsHeading k = codes "before ROOMS:"
unended Rooms k = if k % 2 == 0 then codes "before a room, which has two" else codes "in a room, which has two"
unended CurriculaHeading k = codes "before CURRICULA:"
unended Curricula k = codes "in the curricula, each a name, a number and so many courses"
unended UnavailabilityHeading k = codes "before UNAVAILABILITY_CONSTRAINTS:"
unended Unavailability k = if k % 3 == 0 then codes "before an unavailability, which has three" else codes "in an unavailability, which has three"
unended End k = codes "before END."

-- the label at an even place of the header
abbrev pub header_label : ℕ → List ℕ
header_label k = if k == 0 then codes "Name:"
    else if k == 2 then codes "Courses:"
    else if k == 4 then codes "Rooms:"
    else if k == 6 then codes "Days:"
    else if k == 8 then codes "Periods_per_day:"
    else if k == 10 then codes "Curricula:"
    else codes "Constraints:"

-- the fixed word of a section
abbrev pub fixed_word : Section → ℕ → List ℕ
fixed_word Header k = header_label k
fixed_word CoursesHeading k = codes "COURSES:"
fixed_word RoomsHeading k = codes "ROOMS:"
fixed_word CurriculaHeading k = codes "CURRICULA:"
fixed_word UnavailabilityHeading k = codes "UNAVAILABILITY_CONSTRAINTS:"
fixed_word _ k = codes "END."

-- the limit that the number at word n exceeds
abbrev pub limit : ℕ → List ℕ
limit n = if n == 4 then codes "more than 2,000 courses: "
    else if n == 6 then codes "more than 1,000 rooms: "
    else if n == 8 then codes "more than 2,000 days: "
    else if n == 10 then codes "more than 2,000 periods a day, or 2,000 slots: "
    else if n == 12 then codes "more than 20,000 curricula: "
    else codes "more than 2,000,000 constraints: "
