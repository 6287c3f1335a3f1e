-- What is known of an instance that is spelled: its limits and its numbers.
use Rattle.std.proofs.Common.{◌≡◌, ℕ, ◌*◌, ◌<◌, ◌≤◌, List, [], ◌∷◌, length, map, true, false, ◌&&◌, ◌==◌, sym, ap, subst, ◌∙◌, arith}
use Rattle.std.specs.Prelude.{nat_lt, nat_le}
use Rattle.std.specs.List.{list_all, AllByRecursion as Each}
use Rattle.std.specs.Str.{bytes_eq}
use Rattle.std.proofs.lemmas.List.{length-map, length-replicate}
use Rattle.std.proofs.lemmas.Bool.{and_parts, leb-true, eqb-true}
use Rattle.ctt_text.specs.Numbers.{is_digit, value}
use Rattle.ctt_problem.specs.Lists.{each_once}
use Rattle.ctt_problem.specs.Named.{AreDistinct}
use Rattle.ctt_problem.specs.Problem.{is_among, place_of, IsSmall, IsCourseFacts, AreMembers}
use Rattle.ctt_text.specs.InstanceText.{CourseWords, CurriculumWords, Given, teacher_names, IsNumber, IsCourse, IsRoom, IsCurriculum, facts_of, members_of, Obey, SaysInstance}
use Rattle.ctt_text.specs.InstanceLaws.{SpelledIsProblem}
use Rattle.ctt_problem.proofs.TimetableLemmas.{Each-map}
use Rattle.ctt_text.proofs.InstanceWhole.{looked_up}
use Rattle.ctt_text.proofs.NamedLaws.{teachers_distinct}
use Rattle.ctt_text.proofs.SeenLemmas.{numbered_as_seen, pairs_few}
use Rattle.ctt_problem.proofs.ListLaws.{Each-mapped, once_each, once_apart, once_found, once_few, place_below, bytes_sound, each_among}

-- a number in a text is small
number_small : (word : List ℕ) → IsNumber word → IsSmall (value word)
number_small word h = leb-true (value word) 999999999 (and_parts (nat_lt 0 (length word) && list_all is_digit word) (nat_le (value word) 999999999) h).1

-- what is among the names has a number below their count
number_below : (names : List (List ℕ)) (word : List ℕ) → is_among names word ≡ true → place_of names word < length names
number_below names word h = place_below (bytes_eq word) names h

-- members are known courses, each once
members_are : (names : List (List ℕ)) (q : CurriculumWords) → IsCurriculum names q → AreMembers (length names) (members_of names q)
members_are names q is =
    let numbers : List ℕ = map (place_of names) q.members in
    let below : Each (λ c. c < length names) numbers = Each-mapped (λ c. c < length names) (place_of names) q.members (Each-map (λ m. is_among names m ≡ true) (λ m. place_of names m < length names) (number_below names) q.members is.1) in
    (once_each ◌==◌ (λ x y. eqb-true x y) (λ c. c < length names) numbers below, once_apart ◌==◌ (λ x y. eqb-true x y) numbers)

-- each teacher that is named is among the teachers
named_known : (cs : List CourseWords) → Each (λ name. is_among (teacher_names cs) name ≡ true) (map (λ (c : CourseWords). c.teacher) cs)
named_known cs =
    let named : List (List ℕ) = map (λ (c : CourseWords). c.teacher) cs in
    Each-map (λ name. is_among named name ≡ true) (λ name. is_among (teacher_names cs) name ≡ true) (λ name h. once_found bytes_eq bytes_sound named name ∙ h) named (each_among named)

-- each course has a teacher among the teachers
teachers_known : (cs : List CourseWords) → Each (λ (c : CourseWords). is_among (teacher_names cs) c.teacher ≡ true) cs
teachers_known cs = unmapped (λ name. is_among (teacher_names cs) name ≡ true) cs (named_known cs)
  where
    unmapped : (P : List ℕ → Type 0) (cs : List CourseWords) → Each P (map (λ c. c.teacher) cs) → Each (λ c. P c.teacher) cs
    unmapped P [] each = tt
    unmapped P (c ∷ cs) each = (each.0, unmapped P cs each.1)

-- two facts of each element
Each-both : {X : Type 0} (P Q : X → Type 0) (xs : List X) → Each P xs → Each Q xs → Each (λ x. P x × Q x) xs
Each-both P Q [] p q = tt
Each-both P Q (x ∷ xs) p q = ((p.0, q.0), Each-both P Q xs p.1 q.1)

-- the numbers of courses are small, and their teachers are in range
facts_are : (cs : List CourseWords) → Each IsCourse cs → Each (IsCourseFacts (length (teacher_names cs))) (map (facts_of (teacher_names cs)) cs)
facts_are cs each = Each-mapped (IsCourseFacts (length (teacher_names cs))) (facts_of (teacher_names cs)) cs
    (Each-map (λ c. IsCourse c × (is_among (teacher_names cs) c.teacher ≡ true)) (λ c. IsCourseFacts (length (teacher_names cs)) (facts_of (teacher_names cs) c))
    (λ c is. (number_below (teacher_names cs) c.teacher is.1, number_small c.lectures is.0.0, number_small c.min_days is.0.1, number_small c.students is.0.2))
    cs (Each-both IsCourse (λ c. is_among (teacher_names cs) c.teacher ≡ true) cs each (teachers_known cs)))

pub spelled_is_problem : SpelledIsProblem
spelled_is_problem words i s =
    let g : Given = s.given in
    let o : Obey g = s.obey in
    let says : SaysInstance g i = s.says in
    let courses_same : i.courses ≡ map (facts_of (teacher_names g.courses)) g.courses = says.courses ∙ ap (λ ts. map (facts_of ts) g.courses) says.teacher_names in
    let courses_many : length i.courses ≡ length g.courses = ap (λ cs. length cs) courses_same ∙ length-map g.courses (facts_of (teacher_names g.courses)) in
    let rooms_many : length i.capacities ≡ length g.rooms = ap (λ rs. length rs) says.capacities ∙ length-map g.rooms (λ r. value r.capacity) in
    let curricula_many : length i.curricula ≡ length g.curricula = ap (λ qs. length qs) says.curricula ∙ length-map g.curricula (members_of i.course_names) in
    let names_many : length i.course_names ≡ length g.courses = ap (λ ns. length ns) says.course_names ∙ length-map g.courses (λ c. c.name) in
    record {
      courses_few = subst (λ n. n ≤ 2000) (o.courses_counted ∙ sym courses_many) o.header.courses.1;
      rooms_few = subst (λ n. n ≤ 1000) (o.rooms_counted ∙ sym rooms_many) o.header.rooms.1;
      curricula_few = subst (λ n. n ≤ 20000) (o.curricula_counted ∙ sym curricula_many) o.header.curricula.1;
      teachers_few = subst (λ n. length i.teacher_names ≤ n) (length-map g.courses (λ c. c.teacher) ∙ sym courses_many) (subst (λ ts. length ts ≤ length (map (λ (c : CourseWords). c.teacher) g.courses)) (sym says.teacher_names) (once_few bytes_eq bytes_sound (map (λ c. c.teacher) g.courses)));
      days_few = subst (λ n. n ≤ 2000) (sym says.days) o.header.days.1;
      periods_few = subst (λ n. n ≤ 2000) (sym says.periods) o.header.periods.1;
      slots_few = subst (λ n. n ≤ 2000) (ap (λ d. d * value g.head.periods) (sym says.days) ∙ ap (λ p. i.days * p) (sym says.periods)) o.header.slots;
      marked = says.marks;
      closures_marked = ap (λ b. length b) says.closed ∙ length-replicate (length i.courses * (i.days * i.periods)) false;
      rooms_marked = ap (λ b. length b) says.barred ∙ length-replicate (length i.courses * length i.capacities) false;
      rooms_blocked = ap (λ b. length b) says.blocked ∙ length-replicate (length i.capacities * (i.days * i.periods)) false;
      courses_named = names_many ∙ sym courses_many;
      rooms_named = ap (λ ns. length ns) says.room_names ∙ length-map g.rooms (λ r. r.name) ∙ sym rooms_many;
      curricula_named = ap (λ ns. length ns) says.curriculum_names ∙ length-map g.curricula (λ q. q.name) ∙ sym curricula_many;
      courses = subst (λ ts. Each (IsCourseFacts (length ts)) i.courses) (sym says.teacher_names) (subst (λ cs. Each (IsCourseFacts (length (teacher_names g.courses))) cs) (sym courses_same) (facts_are g.courses o.courses));
      capacities = subst (λ rs. Each IsSmall rs) (sym says.capacities) (Each-mapped IsSmall (λ r. value r.capacity) g.rooms (Each-map IsRoom (λ r. IsSmall (value r.capacity)) (λ r is. number_small r.capacity is) g.rooms o.rooms));
      curricula = subst (λ n. Each (AreMembers n) i.curricula) (names_many ∙ sym courses_many) (subst (λ qs. Each (AreMembers (length i.course_names)) qs) (sym says.curricula)
          (Each-mapped (AreMembers (length i.course_names)) (members_of i.course_names) g.curricula (Each-map (IsCurriculum i.course_names) (λ q. AreMembers (length i.course_names) (members_of i.course_names q)) (members_are i.course_names) g.curricula
          (subst (λ ns. Each (IsCurriculum ns) g.curricula) (sym says.course_names) o.curricula))));
      teachers_seen = ap (λ cs. each_once ◌==◌ (map (λ f. f.teacher) cs)) says.courses ∙ numbered_as_seen g.courses i.teacher_names says.teacher_names
          (subst AreDistinct (sym says.teacher_names) (teachers_distinct (map (λ c. c.teacher) g.courses)))
          (subst (λ ts. Each (λ name. is_among ts name ≡ true) (map (λ (c : CourseWords). c.teacher) g.courses)) (sym says.teacher_names) (named_known g.courses));
      pairs_few = omega (arith, pairs_few i i.course_names g.pairs says.marks (λ c s known lt. sym (looked_up i c s says.closed lt) ∙ says.unavailable c s known lt), o.pairs_counted, o.header.constraints.1);
    }
