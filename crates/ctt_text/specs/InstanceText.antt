-- How an instance is spelled: a relation between the whole list of words and the instance.
use Rattle.std.specs.Prelude.{◌≡◌, ◌≤◌, ◌<◌, ℕ, ◌+◌, ◌*◌, List, [], ◌∷◌, ◌++◌, map, flat_map, length, Bool, true, false, ◌==◌, ◌&&◌, codes, replicate}
use Rattle.std.specs.List.{list_any, AllByRecursion as Each}
use Rattle.std.specs.Str.{bytes_eq}
use Rattle.ctt_problem.specs.declared.course_facts.CourseFacts.{CourseFacts}
use Rattle.ctt_text.specs.declared.fault.ReadFault.{ReadFault}
use Rattle.ctt_text.specs.Numbers.{is_number, value}
use Rattle.ctt_problem.specs.Lists.{each_once}
use Rattle.ctt_problem.specs.Problem.{Problem, is_among, place_of, is_unavailable}
use Rattle.ctt_text.specs.Forms.{BreaksAt}
use Rattle.ctt_text.specs.InstancePlaces.{instance, missing}
use Rattle.ctt_problem.specs.Named.{AreDistinct}

-- the words of the header
pub record HeaderWords : Type 0 where
  pub name : List ℕ
  pub courses : List ℕ
  pub rooms : List ℕ
  pub days : List ℕ
  pub periods : List ℕ
  pub curricula : List ℕ
  pub constraints : List ℕ

pub record CourseWords : Type 0 where
  pub name : List ℕ
  pub teacher : List ℕ
  pub lectures : List ℕ
  pub min_days : List ℕ
  pub students : List ℕ

pub record RoomWords : Type 0 where
  pub name : List ℕ
  pub capacity : List ℕ

pub record CurriculumWords : Type 0 where
  pub name : List ℕ
  pub count : List ℕ
  pub members : List (List ℕ)

pub record PairWords : Type 0 where
  pub course : List ℕ
  pub day : List ℕ
  pub period : List ℕ

pub record Given : Type 0 where
  pub head : HeaderWords
  pub courses : List CourseWords
  pub rooms : List RoomWords
  pub curricula : List CurriculumWords
  pub pairs : List PairWords

-- the words of the header in their order, with the labels
abbrev pub spelled_header : HeaderWords → List (List ℕ)
spelled_header h =
    codes "Name:" ∷ h.name
    ∷ codes "Courses:" ∷ h.courses
    ∷ codes "Rooms:" ∷ h.rooms
    ∷ codes "Days:" ∷ h.days
    ∷ codes "Periods_per_day:" ∷ h.periods
    ∷ codes "Curricula:" ∷ h.curricula
    ∷ codes "Constraints:" ∷ h.constraints
    ∷ []

abbrev pub spelled_course : CourseWords → List (List ℕ)
spelled_course w = w.name ∷ w.teacher ∷ w.lectures ∷ w.min_days ∷ w.students ∷ []

abbrev pub spelled_room : RoomWords → List (List ℕ)
spelled_room w = w.name ∷ w.capacity ∷ []

abbrev pub spelled_curriculum : CurriculumWords → List (List ℕ)
spelled_curriculum w = w.name ∷ w.count ∷ w.members

abbrev pub spelled_pair : PairWords → List (List ℕ)
spelled_pair w = w.course ∷ w.day ∷ w.period ∷ []

abbrev pub spelled : Given → List (List ℕ)
spelled g =
    spelled_header g.head
    ++ (codes "COURSES:" ∷ flat_map spelled_course g.courses
    ++ (codes "ROOMS:" ∷ flat_map spelled_room g.rooms
    ++ (codes "CURRICULA:" ∷ flat_map spelled_curriculum g.curricula
    ++ (codes "UNAVAILABILITY_CONSTRAINTS:" ∷ flat_map spelled_pair g.pairs
    ++ (codes "END." ∷ [])))))

abbrev pub IsNumber : List ℕ → Type 0
IsNumber word = is_number word ≡ true

-- the word is a number of at most this value
abbrev pub IsUpTo : ℕ → List ℕ → Type 0
IsUpTo greatest word = IsNumber word × (value word ≤ greatest)

-- the word is a number below this limit
abbrev pub IsBelow : ℕ → List ℕ → Type 0
IsBelow limit word = IsNumber word × (value word < limit)

-- the word is a number with this value
abbrev pub Says : List ℕ → ℕ → Type 0
Says word n = IsNumber word × (value word ≡ n)

abbrev pub course_names : List CourseWords → List (List ℕ)
course_names cs = map (λ c. c.name) cs

abbrev pub room_names : List RoomWords → List (List ℕ)
room_names rs = map (λ r. r.name) rs

abbrev pub curriculum_names : List CurriculumWords → List (List ℕ)
curriculum_names qs = map (λ q. q.name) qs

-- each teacher once, in the order in which they are first named
abbrev pub teacher_names : List CourseWords → List (List ℕ)
teacher_names cs = each_once bytes_eq (map (λ c. c.teacher) cs)

abbrev pub IsCourse : CourseWords → Type 0
IsCourse c = IsNumber c.lectures × IsNumber c.min_days × IsNumber c.students

abbrev pub IsRoom : RoomWords → Type 0
IsRoom r = IsNumber r.capacity

abbrev pub IsCurriculum : List (List ℕ) → CurriculumWords → Type 0
IsCurriculum names q = Says q.count (length q.members) × Each (λ m. is_among names m ≡ true) q.members

abbrev pub IsPair : List (List ℕ) → ℕ → ℕ → PairWords → Type 0
IsPair names days periods p = (is_among names p.course ≡ true) × IsBelow days p.day × IsBelow periods p.period

-- the header obeys the limits
pub record HeaderObeys (h : HeaderWords) : Type 0 where
  pub courses : IsUpTo 2000 h.courses
  pub rooms : IsUpTo 1000 h.rooms
  pub days : IsUpTo 2000 h.days
  pub periods : IsUpTo 2000 h.periods
  pub slots : value h.days * value h.periods ≤ 2000
  pub curricula : IsUpTo 20000 h.curricula
  pub constraints : IsUpTo 2000000 h.constraints

-- the given words obey the limits, the counts are right, and the names are distinct in each section
pub record Obey (g : Given) : Type 0 where
  pub header : HeaderObeys g.head
  pub courses_counted : value g.head.courses ≡ length g.courses
  pub rooms_counted : value g.head.rooms ≡ length g.rooms
  pub curricula_counted : value g.head.curricula ≡ length g.curricula
  pub pairs_counted : value g.head.constraints ≡ length g.pairs
  pub courses : Each IsCourse g.courses
  pub courses_new : AreDistinct (course_names g.courses)
  pub rooms : Each IsRoom g.rooms
  pub rooms_new : AreDistinct (room_names g.rooms)
  pub curricula : Each (IsCurriculum (course_names g.courses)) g.curricula
  pub curricula_new : AreDistinct (curriculum_names g.curricula)
  pub pairs : Each (IsPair (course_names g.courses) (value g.head.days) (value g.head.periods)) g.pairs

abbrev pub facts_of : List (List ℕ) → CourseWords → CourseFacts
facts_of teachers c = record { teacher = place_of teachers c.teacher; lectures = value c.lectures; min_days = value c.min_days; students = value c.students }

-- members in the order in which they are first named, each once
abbrev pub members_of : List (List ℕ) → CurriculumWords → List ℕ
members_of names q = each_once ◌==◌ (map (place_of names) q.members)

-- the pair names this course and this slot
abbrev pub is_listed : List (List ℕ) → ℕ → ℕ → ℕ → PairWords → Bool
is_listed names periods c s p = place_of names p.course == c && value p.day * periods + value p.period == s

-- the words describe the instance
pub record SaysInstance (g : Given) (i : Problem) : Type 0 where
  pub name : i.name ≡ g.head.name
  pub days : i.days ≡ value g.head.days
  pub periods : i.periods ≡ value g.head.periods
  pub course_names : i.course_names ≡ course_names g.courses
  pub teacher_names : i.teacher_names ≡ teacher_names g.courses
  pub courses : i.courses ≡ map (facts_of i.teacher_names) g.courses
  pub room_names : i.room_names ≡ room_names g.rooms
  pub capacities : i.capacities ≡ map (λ r. value r.capacity) g.rooms
  pub curriculum_names : i.curriculum_names ≡ curriculum_names g.curricula
  pub curricula : i.curricula ≡ map (members_of i.course_names) g.curricula
  pub marks : length i.unavailable ≡ length i.courses * (i.days * i.periods)
  -- exactly in the listed pairs
  pub unavailable : (c s : ℕ) → c < length i.courses → s < i.days * i.periods → is_unavailable i c s ≡ list_any (is_listed i.course_names i.periods c s) g.pairs
  -- nothing is closed: another text closes slots
  pub closed : i.closed ≡ replicate (length i.courses * (i.days * i.periods)) false
  -- no room is barred: another text bars rooms
  pub barred : i.barred ≡ replicate (length i.courses * length i.capacities) false
  -- no room is blocked: the text that closes slots blocks rooms
  pub blocked : i.blocked ≡ replicate (length i.capacities * (i.days * i.periods)) false

-- The words begin with words that obey the rules and describe the instance; words after them are
-- ignored.
pub record Spells (words : List (List ℕ)) (i : Problem) : Type 0 where
  pub given : Given
  pub rest : List (List ℕ)
  pub all : words ≡ spelled given ++ rest
  pub obey : Obey given
  pub says : SaysInstance given i

-- The words before word k obey the rules of their places, and word k breaks the rule of its place,
-- or is missing, with this fault.
abbrev pub InstanceBreaksAt : List (List ℕ) → ℕ → ReadFault → Type 0
InstanceBreaksAt words k fault = BreaksAt missing instance words k fault
