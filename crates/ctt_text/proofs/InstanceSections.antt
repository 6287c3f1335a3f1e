-- The header and the sections of an instance: their words, and what they make.
use Rattle.std.proofs.Common.{◌≡◌, ℕ, ◌+◌, ◌*◌, ◌<◌, List, [], ◌∷◌, ◌++◌, length, map, flat_map, Bool, false, ◌&&◌, ◌==◌, None, refl, sym, ap, subst, ◌∙◌, append_assoc, mul_comm}
use Rattle.std.specs.Prelude.{fold, replicate, codes, nat_le, get_or}
use Rattle.std.specs.List.{list_any, AllByRecursion as Each}
use Rattle.std.specs.Str.{bytes_eq}
use Rattle.std.proofs.lemmas.List.{append-nil}
use Rattle.std.proofs.lemmas.Bool.{leb-true, le-leb, and_parts}
use Rattle.std.proofs.lemmas.Nat.{mul-add-lt}
use Rattle.ctt_text.specs.declared.fault.ReadFault.TheVariants.{Expected, BadNumber, TooLarge}
use Rattle.ctt_problem.specs.declared.course_facts.CourseFacts.{CourseFacts}
use Rattle.ctt_text.specs.Numbers.{is_number, value}
use Rattle.ctt_problem.specs.Problem.{place_of}
use Rattle.ctt_text.specs.Forms.{◌>>=◌, times, Fills}
use Rattle.ctt_text.specs.Places.{passing_number, one, any, fixed, number_if, known}
use Rattle.ctt_text.specs.InstancePlaces.{Header, Courses, Rooms, Curricula, number_up_to, period_count, two_counts, calendar, header, course, room, curriculum, unavailability, no_courses, no_rooms, no_curricula}
use Rattle.ctt_problem.specs.Lists.{with_new}
use Rattle.ctt_text.specs.InstanceText.{HeaderWords, CourseWords, RoomWords, CurriculumWords, PairWords, spelled_header, spelled_course, spelled_room, spelled_curriculum, spelled_pair, course_names, room_names, curriculum_names, teacher_names, IsCourse, IsRoom, IsCurriculum, IsPair, HeaderObeys, facts_of, members_of, is_listed}
use Rattle.ctt_problem.specs.Named.{AreDistinct}
use Rattle.ctt_text.proofs.SectionLaws.{Section, section_fills, section_taken, entries_fill, entries_taken, list_grown, each_apart, each_together}
use Rattle.ctt_problem.proofs.ListLaws.{grown_once, bytes_sound, place_grown}
use Rattle.ctt_problem.proofs.MarkLaws.{marked, marks_made, marks_many, marks_same, place_in_rows, Row, row_of}
use Rattle.ctt_text.proofs.PlaceLaws.{passed_both, up_to_passes, passed_up_to, is_fixed}
use Rattle.ctt_text.proofs.InstanceRows.{add_room, room_fills, room_taken, add_course, course_fills, course_taken, add_curriculum, curriculum_fills, curriculum_taken, mark_of, add_pair, FitsPair, pair_fills, pair_taken}

-- rooms
abbrev pub rooms_of : List RoomWords → Rooms
rooms_of given = record { names = room_names given; capacities = map (λ r. value r.capacity) given }

-- two sections are equal if their two lists are
rooms_same : (n n' : List (List ℕ)) (c c' : List ℕ) → n ≡ n' → c ≡ c' → ◌≡◌ {A = Rooms} (record { names = n; capacities = c }) (record { names = n'; capacities = c' })
rooms_same n n' c c' e0 e1 = rw (e0, e1) refl

-- rooms that are added one by one
rooms_made : (given : List RoomWords) → fold add_room no_rooms given ≡ rooms_of given
rooms_made given = rooms_same _ _ _ _ (list_grown add_room (λ s. s.names) (λ w. w.name) (λ s w. refl) given no_rooms) (list_grown add_room (λ s. s.capacities) (λ w. value w.capacity) (λ s w. refl) given no_rooms)

-- rooms with distinct names fill their section, and what fills it is such rooms
pub rooms_fill : (given : List RoomWords) → AreDistinct (room_names given) → Each IsRoom given → Fills (times room (length given) no_rooms) (flat_map spelled_room given) (rooms_of given)
rooms_fill = section_fills room spelled_room add_room (λ s. s.names) (λ w. w.name) IsRoom (λ s w. refl) no_rooms rooms_of rooms_made room_fills

pub rooms_taken : (n : ℕ) (words : List (List ℕ)) (t : Rooms) → Fills (times room n no_rooms) words t → Section spelled_room [] (λ (w : RoomWords). w.name) IsRoom rooms_of n words t
rooms_taken = section_taken room spelled_room add_room (λ s. s.names) (λ w. w.name) IsRoom (λ s w. refl) no_rooms rooms_of rooms_made room_taken

-- courses, with the final numbers of their teachers
abbrev pub courses_of : List CourseWords → Courses
courses_of given = record { names = course_names given; facts = map (facts_of (teacher_names given)) given; teachers = teacher_names given }

-- two sections are equal if their three lists are
courses_same : (n n' : List (List ℕ)) (f f' : List CourseFacts) (t t' : List (List ℕ)) → n ≡ n' → f ≡ f' → t ≡ t' → ◌≡◌ {A = Courses} (record { names = n; facts = f; teachers = t }) (record { names = n'; facts = f'; teachers = t' })
courses_same n n' f f' t t' e0 e1 e2 = rw (e0, e1, e2) refl

-- the teachers of courses that are added one by one
teachers_added : (given : List CourseWords) (s : Courses) → (fold add_course s given).teachers ≡ fold (with_new bytes_eq) s.teachers (map (λ w. w.teacher) given)
teachers_added [] s = refl
teachers_added (w ∷ given) s = teachers_added given (add_course s w)

-- the facts of courses, with the final numbers of their teachers
facts_added : (given : List CourseWords) (s : Courses) (teachers : List (List ℕ)) → fold (with_new bytes_eq) s.teachers (map (λ w. w.teacher) given) ≡ teachers
    → (fold add_course s given).facts ≡ s.facts ++ map (facts_of teachers) given
facts_added [] s teachers h = sym (append-nil s.facts)
facts_added (w ∷ given) s teachers h =
    let at : place_of s.teachers w.teacher ≡ place_of teachers w.teacher = sym (place_grown w.teacher s.teachers (map (λ w. w.teacher) given)) ∙ ap (λ q. place_of q w.teacher) h in
    facts_added given (add_course s w) teachers h
    ∙ append_assoc s.facts (facts_of s.teachers w ∷ []) (map (facts_of teachers) given)
    ∙ ap (λ n. s.facts ++ record { teacher = n; lectures = value w.lectures; min_days = value w.min_days; students = value w.students } ∷ map (facts_of teachers) given) at

-- courses that are added one by one
courses_made : (given : List CourseWords) → fold add_course no_courses given ≡ courses_of given
courses_made given =
    let teachers : fold (with_new bytes_eq) [] (map (λ (w : CourseWords). w.teacher) given) ≡ teacher_names given = grown_once bytes_eq bytes_sound (map (λ w. w.teacher) given) in
    courses_same _ _ _ _ _ _ (list_grown add_course (λ s. s.names) (λ w. w.name) (λ s w. refl) given no_courses) (facts_added given no_courses (teacher_names given) teachers) (teachers_added given no_courses ∙ teachers)

-- courses with distinct names fill their section, and what fills it is such courses
pub courses_fill : (given : List CourseWords) → AreDistinct (course_names given) → Each IsCourse given → Fills (times course (length given) no_courses) (flat_map spelled_course given) (courses_of given)
courses_fill = section_fills course spelled_course add_course (λ s. s.names) (λ w. w.name) IsCourse (λ s w. refl) no_courses courses_of courses_made course_fills

pub courses_taken : (n : ℕ) (words : List (List ℕ)) (t : Courses) → Fills (times course n no_courses) words t → Section spelled_course [] (λ (w : CourseWords). w.name) IsCourse courses_of n words t
courses_taken = section_taken course spelled_course add_course (λ s. s.names) (λ w. w.name) IsCourse (λ s w. refl) no_courses courses_of courses_made course_taken

-- curricula, of courses with these names
module _ (names : List (List ℕ)) where
  -- what curricula make
  abbrev pub curricula_of : List CurriculumWords → Curricula
  curricula_of given = record { names = curriculum_names given; members = map (members_of names) given }

  -- two sections are equal if their two lists are
  curricula_same : (n n' : List (List ℕ)) (m m' : List (List ℕ)) → n ≡ n' → m ≡ m' → ◌≡◌ {A = Curricula} (record { names = n; members = m }) (record { names = n'; members = m' })
  curricula_same n n' m m' e0 e1 = rw (e0, e1) refl

  -- curricula that are added one by one
  curricula_made : (given : List CurriculumWords) → fold (add_curriculum names) no_curricula given ≡ curricula_of given
  curricula_made given = curricula_same _ _ _ _ (list_grown (add_curriculum names) (λ s. s.names) (λ w. w.name) (λ s w. refl) given no_curricula) (list_grown (add_curriculum names) (λ s. s.members) (members_of names) (λ s w. refl) given no_curricula)

  -- curricula with distinct names fill their section, and what fills it is such curricula
  pub curricula_fill : (given : List CurriculumWords) → AreDistinct (curriculum_names given) → Each (IsCurriculum names) given
      → Fills (times (curriculum names) (length given) no_curricula) (flat_map spelled_curriculum given) (curricula_of given)
  curricula_fill = section_fills (curriculum names) spelled_curriculum (add_curriculum names) (λ s. s.names) (λ w. w.name) (IsCurriculum names) (λ s w. refl) no_curricula curricula_of curricula_made (curriculum_fills names)

  pub curricula_taken : (n : ℕ) (words : List (List ℕ)) (t : Curricula) → Fills (times (curriculum names) n no_curricula) words t
      → Section spelled_curriculum [] (λ (w : CurriculumWords). w.name) (IsCurriculum names) curricula_of n words t
  curricula_taken = section_taken (curriculum names) spelled_curriculum (add_curriculum names) (λ s. s.names) (λ w. w.name) (IsCurriculum names) (λ s w. refl) no_curricula curricula_of curricula_made (curriculum_taken names)

  -- unavailability
  module _ (days periods : ℕ) where
    -- pairs fill their section, and mark the table
    pub pairs_fill : (given : List PairWords) (s : List Bool) → Each (IsPair names days periods) given
        → Fills (times (unavailability names days periods) (length given) s) (flat_map spelled_pair given) (marked (mark_of names days periods) s given)
    pairs_fill given s each = entries_fill (unavailability names days periods) spelled_pair (add_pair names days periods) (FitsPair names days periods) (pair_fills names days periods) given s (each_together (add_pair names days periods) (IsPair names days periods) given s each)

    -- the pairs of a section, and the table that they mark
    pub record Pairs (n : ℕ) (s : List Bool) (words : List (List ℕ)) (t : List Bool) : Type 0 where
      pub given : List PairWords
      pub count : length given ≡ n
      pub all : words ≡ flat_map spelled_pair given
      pub each : Each (IsPair names days periods) given
      pub gives : marked (mark_of names days periods) s given ≡ t

    -- what fills the section is pairs
    pub pairs_taken : (n : ℕ) (s : List Bool) (words : List (List ℕ)) (t : List Bool) → Fills (times (unavailability names days periods) n s) words t → Pairs n s words t
    pairs_taken n s words t h =
        let r = entries_taken (unavailability names days periods) spelled_pair (add_pair names days periods) (FitsPair names days periods) (pair_taken names days periods) n s words t h in
        record { given = r.given; count = r.count; all = r.all; each = each_apart (add_pair names days periods) (IsPair names days periods) r.given s r.fit; gives = r.gives }

    -- the index of a pair is that of a course and a slot exactly if the pair lists them
    listed : (c s : ℕ) → s < days * periods → (pairs : List PairWords) → Each (IsPair names days periods) pairs
        → list_any (λ p. mark_of names days periods p == c * (days * periods) + s) pairs ≡ list_any (is_listed names periods c s) pairs
    listed c s lt [] each = refl
    listed c s lt (p ∷ pairs) each =
        let in_row : value p.day * periods + value p.period < days * periods = subst (λ n. value p.day * periods + value p.period < n) (mul_comm periods days) (mul-add-lt (value p.day) periods (value p.period) days each.0.1.1 each.0.2.1) in
        rw (place_in_rows (days * periods) (place_of names p.course) (value p.day * periods + value p.period) c s in_row lt, listed c s lt pairs each.1) refl

    module _ (courses : ℕ) (pairs : List PairWords) where
      -- the table that the pairs make
      abbrev pub table_of : List Bool
      table_of = marked (mark_of names days periods) (replicate (courses * (days * periods)) false) pairs

      -- it has as many marks as there are courses and slots
      pub table_many : length table_of ≡ courses * (days * periods)
      table_many = marks_many (mark_of names days periods) (courses * (days * periods)) pairs

      module _ (each : Each (IsPair names days periods) pairs) where
        -- it tells for each course and slot whether a pair lists them
        pub table_says : (c s : ℕ) → c < courses → s < days * periods → get_or table_of (c * (days * periods) + s) false ≡ list_any (is_listed names periods c s) pairs
        table_says c s known lt =
            let within : c * (days * periods) + s < courses * (days * periods) = subst (λ n. c * (days * periods) + s < n) (mul_comm (days * periods) courses) (mul-add-lt c (days * periods) s courses known lt) in
            marks_made (mark_of names days periods) (courses * (days * periods)) pairs (c * (days * periods) + s) within ∙ listed c s lt pairs each

        -- a table of the same length with the same marks is equal
        pub table_same : (table : List Bool) → length table ≡ courses * (days * periods)
            → ((c s : ℕ) → c < courses → s < days * periods → get_or table (c * (days * periods) + s) false ≡ list_any (is_listed names periods c s) pairs) → table_of ≡ table
        table_same table len says = marks_same (mark_of names days periods) (courses * (days * periods)) pairs table len (λ k lt.
            let r : Row courses (days * periods) k = row_of courses (days * periods) k lt in
            subst (λ n. get_or table n false ≡ list_any (λ p. mark_of names days periods p == n) pairs) r.place (says r.row r.column r.row_below r.column_below ∙ sym (listed r.row r.column r.column_below pairs each)))

-- the header
abbrev pub header_of : HeaderWords → Header
header_of h = record { name = h.name; courses = value h.courses; rooms = value h.rooms; days = value h.days; periods = value h.periods; curricula = value h.curricula; constraints = value h.constraints }

-- a header within the limits fills its form
pub header_fills : (h : HeaderWords) → HeaderObeys h → Fills header (spelled_header h) (header_of h)
unfolding header two_counts calendar number_up_to period_count number_if fixed any known one ◌>>=◌
header_fills h o =
    let periods : passing_number BadNumber (λ n. nat_le n 2000 && nat_le (value h.days * n) 2000) TooLarge h.periods ≡ None
    = rw (o.periods.0, le-leb (value h.periods) 2000 o.periods.1, le-leb (value h.days * value h.periods) 2000 o.slots) refl in
    (refl, (refl, (refl, (up_to_passes BadNumber TooLarge h.courses 2000 o.courses, (refl, (up_to_passes BadNumber TooLarge h.rooms 1000 o.rooms, (refl, (up_to_passes BadNumber TooLarge h.days 2000 o.days, (refl, (periods, (refl, (up_to_passes BadNumber TooLarge h.curricula 20000 o.curricula, (refl, (up_to_passes BadNumber TooLarge h.constraints 2000000 o.constraints, refl))))))))))))))

-- the given words of a header
pub record HeaderTaken (words : List (List ℕ)) (x : Header) : Type 0 where
  pub given : HeaderWords
  pub all : words ≡ spelled_header given
  pub obeys : HeaderObeys given
  pub gives : header_of given ≡ x

-- what fills this form is such a header
pub header_taken : (words : List (List ℕ)) (x : Header) → Fills header words x → HeaderTaken words x
unfolding header two_counts calendar number_up_to period_count number_if fixed any known one ◌>>=◌
header_taken ([]) x h = absurd h
header_taken (l1 ∷ []) x h = absurd h.1
header_taken (l1 ∷ name ∷ []) x h = absurd h.1.1
header_taken (l1 ∷ name ∷ l2 ∷ []) x h = absurd h.1.1.1
header_taken (l1 ∷ name ∷ l2 ∷ courses ∷ []) x h = absurd h.1.1.1.1
header_taken (l1 ∷ name ∷ l2 ∷ courses ∷ l3 ∷ []) x h = absurd h.1.1.1.1.1
header_taken (l1 ∷ name ∷ l2 ∷ courses ∷ l3 ∷ rooms ∷ []) x h = absurd h.1.1.1.1.1.1
header_taken (l1 ∷ name ∷ l2 ∷ courses ∷ l3 ∷ rooms ∷ l4 ∷ []) x h = absurd h.1.1.1.1.1.1.1
header_taken (l1 ∷ name ∷ l2 ∷ courses ∷ l3 ∷ rooms ∷ l4 ∷ days ∷ []) x h = absurd h.1.1.1.1.1.1.1.1
header_taken (l1 ∷ name ∷ l2 ∷ courses ∷ l3 ∷ rooms ∷ l4 ∷ days ∷ l5 ∷ []) x h = absurd h.1.1.1.1.1.1.1.1.1
header_taken (l1 ∷ name ∷ l2 ∷ courses ∷ l3 ∷ rooms ∷ l4 ∷ days ∷ l5 ∷ periods ∷ []) x h = absurd h.1.1.1.1.1.1.1.1.1.1
header_taken (l1 ∷ name ∷ l2 ∷ courses ∷ l3 ∷ rooms ∷ l4 ∷ days ∷ l5 ∷ periods ∷ l6 ∷ []) x h = absurd h.1.1.1.1.1.1.1.1.1.1.1
header_taken (l1 ∷ name ∷ l2 ∷ courses ∷ l3 ∷ rooms ∷ l4 ∷ days ∷ l5 ∷ periods ∷ l6 ∷ curricula ∷ []) x h = absurd h.1.1.1.1.1.1.1.1.1.1.1.1
header_taken (l1 ∷ name ∷ l2 ∷ courses ∷ l3 ∷ rooms ∷ l4 ∷ days ∷ l5 ∷ periods ∷ l6 ∷ curricula ∷ l7 ∷ []) x h = absurd h.1.1.1.1.1.1.1.1.1.1.1.1.1
header_taken (l1 ∷ name ∷ l2 ∷ courses ∷ l3 ∷ rooms ∷ l4 ∷ days ∷ l5 ∷ periods ∷ l6 ∷ curricula ∷ l7 ∷ constraints ∷ []) x h =
    let p = passed_both (is_number periods) (nat_le (value periods) 2000 && nat_le (value days * value periods) 2000) BadNumber TooLarge (h.1.1.1.1.1.1.1.1.1.0) in
    let slots = and_parts (nat_le (value periods) 2000) (nat_le (value days * value periods) 2000) p.1 in
    record {
      given = record { name = name; courses = courses; rooms = rooms; days = days; periods = periods; curricula = curricula; constraints = constraints };
      all = rw (is_fixed Expected l1 (codes "Name:") h.0, is_fixed Expected l2 (codes "Courses:") h.1.1.0, is_fixed Expected l3 (codes "Rooms:") h.1.1.1.1.0, is_fixed Expected l4 (codes "Days:") h.1.1.1.1.1.1.0, is_fixed Expected l5 (codes "Periods_per_day:") h.1.1.1.1.1.1.1.1.0, is_fixed Expected l6 (codes "Curricula:") h.1.1.1.1.1.1.1.1.1.1.0, is_fixed Expected l7 (codes "Constraints:") h.1.1.1.1.1.1.1.1.1.1.1.1.0) refl;
      obeys = record {
        courses = passed_up_to BadNumber TooLarge courses 2000 h.1.1.1.0;
        rooms = passed_up_to BadNumber TooLarge rooms 1000 h.1.1.1.1.1.0;
        days = passed_up_to BadNumber TooLarge days 2000 h.1.1.1.1.1.1.1.0;
        periods = (p.0, leb-true (value periods) 2000 slots.0);
        slots = leb-true (value days * value periods) 2000 slots.1;
        curricula = passed_up_to BadNumber TooLarge curricula 20000 h.1.1.1.1.1.1.1.1.1.1.1.0;
        constraints = passed_up_to BadNumber TooLarge constraints 2000000 h.1.1.1.1.1.1.1.1.1.1.1.1.1.0;
      };
      gives = h.1.1.1.1.1.1.1.1.1.1.1.1.1.1;
    }
header_taken (l1 ∷ name ∷ l2 ∷ courses ∷ l3 ∷ rooms ∷ l4 ∷ days ∷ l5 ∷ periods ∷ l6 ∷ curricula ∷ l7 ∷ constraints ∷ more ∷ words) x h = absurd h.1.1.1.1.1.1.1.1.1.1.1.1.1.1
