-- The entries of each section of an instance: their words, and what they add.
use Rattle.std.proofs.Common.{◌≡◌, ℕ, ◌+◌, ◌*◌, List, [], ◌∷◌, ◌++◌, length, map, flat_map, Bool, true, ◌==◌, refl, sym, ap, subst, ◌∙◌}
use Rattle.std.specs.Prelude.{fold, slice_set}
use Rattle.std.specs.List.{AllByRecursion as Each}
use Rattle.std.specs.Str.{bytes_eq}
use Rattle.std.proofs.lemmas.List.{append-nil}
use Rattle.std.proofs.lemmas.List.Folds.{fold-map}
use Rattle.std.proofs.lemmas.Bool.{eqb-true}
use Rattle.ctt_text.specs.declared.fault.ReadFault.{ReadFault}
use Rattle.ctt_text.specs.declared.fault.ReadFault.TheVariants.{BadNumber, RepeatedName, UnknownCourse, DayOut, PeriodOut}
use Rattle.ctt_text.specs.Numbers.{value}
use Rattle.ctt_problem.specs.Lists.{each_once, with_new}
use Rattle.ctt_problem.specs.Problem.{is_among, place_of}
use Rattle.ctt_text.specs.Forms.{done, ◌>>=◌, times, Fills}
use Rattle.ctt_text.specs.Places.{one, any, known, number, number_if, new_name, known_name}
use Rattle.ctt_text.specs.InstancePlaces.{Courses, Rooms, Curricula, course, room, member, curriculum, day_below, period_below, unavailability}
use Rattle.ctt_text.specs.InstanceText.{CourseWords, RoomWords, CurriculumWords, PairWords, spelled_course, spelled_room, spelled_curriculum, spelled_pair, IsCourse, IsRoom, IsCurriculum, IsPair, facts_of, members_of}
use Rattle.ctt_text.proofs.FormLaws.{fills_both, bind_case, done_taken}
use Rattle.ctt_text.proofs.SectionLaws.{Entry, Named, entries_fill, entries_taken, each_apart, each_together}
use Rattle.ctt_problem.proofs.ListLaws.{grown_once}
use Rattle.ctt_text.proofs.PlaceLaws.{failed, a_number, number_given, a_name, name_given, below_passes, passed_below}

-- rooms
abbrev pub add_room : Rooms → RoomWords → Rooms
add_room s w = record { names = s.names ++ w.name ∷ []; capacities = s.capacities ++ value w.capacity ∷ [] }

abbrev pub FitsRoom : Rooms → RoomWords → Type 0
FitsRoom = Named (λ s. s.names) (λ w. w.name) IsRoom

-- a room with a new name fills its form
pub room_fills : (s : Rooms) (w : RoomWords) → FitsRoom s w → Fills (room s) (spelled_room w) (add_room s w)
unfolding room new_name number known one ◌>>=◌
room_fills s w fit = (rw fit.0 refl, (rw fit.1 refl, rw fit.1 refl))

-- what fills this form is such a room
pub room_taken : (s : Rooms) (words : List (List ℕ)) (t : Rooms) → Fills (room s) words t → Entry spelled_room add_room FitsRoom s words t
unfolding room new_name number known one ◌>>=◌
room_taken s [] t h = absurd h
room_taken s (name ∷ []) t h = absurd h.1
room_taken s (name ∷ capacity ∷ []) t h = record {
  given = record { name = name; capacity = capacity };
  all = refl;
  fit = (failed (is_among s.names name) RepeatedName h.0, a_number BadNumber capacity h.1.0);
  gives = rw (number_given BadNumber capacity h.1.0) at h.1.1;
}
room_taken s (name ∷ capacity ∷ more ∷ words) t h = absurd h.1.1

-- courses
abbrev pub add_course : Courses → CourseWords → Courses
add_course s w = record { names = s.names ++ w.name ∷ []; facts = s.facts ++ facts_of s.teachers w ∷ []; teachers = with_new bytes_eq s.teachers w.teacher }

abbrev pub FitsCourse : Courses → CourseWords → Type 0
FitsCourse = Named (λ s. s.names) (λ w. w.name) IsCourse

-- a course with a new name fills its form
pub course_fills : (s : Courses) (w : CourseWords) → FitsCourse s w → Fills (course s) (spelled_course w) (add_course s w)
unfolding course new_name any number known one ◌>>=◌
course_fills s w fit = (rw fit.0 refl, (refl, (rw fit.1.0 refl, (rw fit.1.1 refl, (rw fit.1.2 refl, rw (fit.1.0, fit.1.1, fit.1.2) refl)))))

-- what fills this form is such a course
pub course_taken : (s : Courses) (words : List (List ℕ)) (t : Courses) → Fills (course s) words t → Entry spelled_course add_course FitsCourse s words t
unfolding course new_name any number known one ◌>>=◌
course_taken s [] t h = absurd h
course_taken s (name ∷ []) t h = absurd h.1
course_taken s (name ∷ teacher ∷ []) t h = absurd h.1.1
course_taken s (name ∷ teacher ∷ lectures ∷ []) t h = absurd h.1.1.1
course_taken s (name ∷ teacher ∷ lectures ∷ days ∷ []) t h = absurd h.1.1.1.1
course_taken s (name ∷ teacher ∷ lectures ∷ days ∷ students ∷ []) t h = record {
  given = record { name = name; teacher = teacher; lectures = lectures; min_days = days; students = students };
  all = refl;
  fit = (
    failed (is_among s.names name) RepeatedName h.0,
    (a_number BadNumber lectures h.1.1.0, a_number BadNumber days h.1.1.1.0, a_number BadNumber students h.1.1.1.1.0),
  );
  gives = rw (number_given BadNumber lectures h.1.1.0, number_given BadNumber days h.1.1.1.0, number_given BadNumber students h.1.1.1.1.0) at h.1.1.1.1.1;
}
course_taken s (name ∷ teacher ∷ lectures ∷ days ∷ students ∷ more ∷ words) t h = absurd h.1.1.1.1.1

-- the words of members: each is one word
flat_single : {X : Type 0} (xs : List X) → flat_map (λ x. x ∷ []) xs ≡ xs
flat_single [] = refl
flat_single (x ∷ xs) = ap (λ r. x ∷ r) (flat_single xs)

-- members, of courses with these names
module _ (names : List (List ℕ)) where
  abbrev add_member : List ℕ → List ℕ → List ℕ
  add_member s w = with_new ◌==◌ s (place_of names w)

  abbrev FitsMember : List ℕ → List ℕ → Type 0
  FitsMember s w = is_among names w ≡ true

  -- a known course fills the form of a member
  member_fills : (s : List ℕ) (w : List ℕ) → FitsMember s w → Fills (member names s) (w ∷ []) (add_member s w)
  unfolding member known_name known one ◌>>=◌
  member_fills s w fit = (rw fit refl, rw fit refl)

  -- what fills it is a known course
  member_taken : (s : List ℕ) (words : List (List ℕ)) (t : List ℕ) → Fills (member names s) words t → Entry (λ w. w ∷ []) add_member FitsMember s words t
  unfolding member known_name known one ◌>>=◌
  member_taken s [] t h = absurd h
  member_taken s (w ∷ []) t h = record { given = w; all = refl; fit = a_name UnknownCourse w names h.0; gives = rw (name_given UnknownCourse w names h.0) at h.1 }
  member_taken s (w ∷ more ∷ words) t h = absurd h.1

  -- the numbers of the members, each once
  abbrev numbers : List (List ℕ) → List ℕ
  numbers ws = each_once ◌==◌ (map (place_of names) ws)

  -- members that are added one by one occur once each
  members_added : (ws : List (List ℕ)) → fold add_member [] ws ≡ numbers ws
  members_added ws = sym (fold-map (with_new ◌==◌) (place_of names) [] ws) ∙ grown_once ◌==◌ (λ x y. eqb-true x y) (map (place_of names) ws)

  -- known courses fill the form of n members
  members_fill : (ws : List (List ℕ)) → Each (λ m. is_among names m ≡ true) ws → Fills (times (member names) (length ws) []) ws (numbers ws)
  members_fill ws known =
      let p = entries_fill (member names) (λ w. w ∷ []) add_member FitsMember member_fills ws [] (each_together add_member (λ m. is_among names m ≡ true) ws [] known) in
      subst (λ q. Fills (times (member names) (length ws) []) ws q) (members_added ws) (subst (λ q. Fills (times (member names) (length ws) []) q (fold add_member [] ws)) (flat_single ws) p)

  -- the words of members, and their numbers
  record Members (n : ℕ) (words : List (List ℕ)) (t : List ℕ) : Type 0 where
    count : length words ≡ n
    known : Each (λ m. is_among names m ≡ true) words
    gives : numbers words ≡ t

  -- what fills it is known courses
  members_taken : (n : ℕ) (words : List (List ℕ)) (t : List ℕ) → Fills (times (member names) n []) words t → Members n words t
  members_taken n words t h =
      let r = entries_taken (member names) (λ w. w ∷ []) add_member FitsMember member_taken n [] words t h in
      let all : words ≡ r.given = r.all ∙ flat_single r.given in
      subst (λ q. Members n q t) (sym all) (record { count = r.count; known = each_apart add_member (λ m. is_among names m ≡ true) r.given [] r.fit; gives = sym (members_added r.given) ∙ r.gives })

  -- curricula
  abbrev pub add_curriculum : Curricula → CurriculumWords → Curricula
  add_curriculum s q = record { names = s.names ++ q.name ∷ []; members = s.members ++ members_of names q ∷ [] }

  abbrev pub FitsCurriculum : Curricula → CurriculumWords → Type 0
  FitsCurriculum = Named (λ s. s.names) (λ q. q.name) (IsCurriculum names)

  -- what follows the members of a curriculum
  abbrev with_members : Curricula → List ℕ → List ℕ → Curricula
  with_members s name members = record { names = s.names ++ name ∷ []; members = s.members ++ members ∷ [] }

  -- a curriculum with a new name, and with as many members as it states, fills its form
  pub curriculum_fills : (s : Curricula) (w : CurriculumWords) → FitsCurriculum s w → Fills (curriculum names s) (spelled_curriculum w) (add_curriculum s w)
  unfolding curriculum new_name number known one ◌>>=◌
  curriculum_fills s w fit =
      let members = subst (λ n. Fills (times (member names) n []) w.members (numbers w.members)) (sym fit.1.0.1) (members_fill w.members fit.1.1) in (
        rw fit.0 refl,
        (
          rw fit.1.0.0 refl,
          rw fit.1.0.0 (subst (λ q. Fills (times (member names) (value w.count) [] >>= λ members. done (with_members s w.name members)) q (add_curriculum s w)) (append-nil w.members)
              (fills_both (times (member names) (value w.count) []) (λ members. done (with_members s w.name members)) w.members [] (numbers w.members) (add_curriculum s w) members refl)),
        ),
      )

  -- what fills this form is such a curriculum
  pub curriculum_taken : (s : Curricula) (words : List (List ℕ)) (t : Curricula) → Fills (curriculum names s) words t → Entry spelled_curriculum add_curriculum FitsCurriculum s words t
  unfolding curriculum new_name number known one ◌>>=◌
  curriculum_taken s [] t h = absurd h
  curriculum_taken s (name ∷ []) t h = absurd h.1
  curriculum_taken s (name ∷ count ∷ ms) t h = bind_case (Entry spelled_curriculum add_curriculum FitsCurriculum s (name ∷ count ∷ ms) t) (times (member names) (value count) []) (λ members. done (with_members s name members)) ms t (rw (number_given BadNumber count h.1.0) at h.1.1) (λ us vs a p q e.
      let end = done_taken ReadFault (with_members s name a) t vs q in
      let members = members_taken (value count) us a p in
      let all : ms ≡ us = e ∙ ap (λ r. us ++ r) end.0 ∙ append-nil us in
      record {
        given = record { name = name; count = count; members = us };
        all = ap (λ r. name ∷ count ∷ r) all;
        fit = (failed (is_among s.names name) RepeatedName h.0, ((a_number BadNumber count h.1.0, sym members.count), members.known));
        gives = ap (λ ns. with_members s name ns) members.gives ∙ end.1;
      })

  -- unavailability
  module _ (days periods : ℕ) where
    -- the index of a pair in the table
    abbrev pub mark_of : PairWords → ℕ
    mark_of p = place_of names p.course * (days * periods) + (value p.day * periods + value p.period)

    abbrev pub add_pair : List Bool → PairWords → List Bool
    add_pair s w = slice_set s (mark_of w) true

    abbrev pub FitsPair : List Bool → PairWords → Type 0
    FitsPair _ = IsPair names days periods

    -- a known course with a day and a period in range fills the form of a pair
    pub pair_fills : (s : List Bool) (w : PairWords) → FitsPair s w → Fills (unavailability names days periods s) (spelled_pair w) (add_pair s w)
    unfolding unavailability known_name day_below period_below number_if known one ◌>>=◌
    pair_fills s w fit = (rw fit.0 refl, (below_passes BadNumber DayOut w.day days fit.1, (below_passes BadNumber PeriodOut w.period periods fit.2, rw fit.0 refl)))

    -- what fills this form is such a pair
    pub pair_taken : (s : List Bool) (words : List (List ℕ)) (t : List Bool) → Fills (unavailability names days periods s) words t → Entry spelled_pair add_pair FitsPair s words t
    unfolding unavailability known_name day_below period_below number_if known one ◌>>=◌
    pair_taken s [] t h = absurd h
    pair_taken s (c ∷ []) t h = absurd h.1
    pair_taken s (c ∷ d ∷ []) t h = absurd h.1.1
    pair_taken s (c ∷ d ∷ p ∷ []) t h = record {
      given = record { course = c; day = d; period = p };
      all = refl;
      fit = (a_name UnknownCourse c names h.0, passed_below BadNumber DayOut d days h.1.0, passed_below BadNumber PeriodOut p periods h.1.1.0);
      gives = rw (name_given UnknownCourse c names h.0) at h.1.1.1;
    }
    pair_taken s (c ∷ d ∷ p ∷ more ∷ words) t h = absurd h.1.1.1
