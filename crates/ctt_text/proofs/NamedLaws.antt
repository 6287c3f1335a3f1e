-- The names of an instance that a text spells: words of the text, and distinct.
use Rattle.std.proofs.Common.{◌≡◌, ℕ, List, [], ◌∷◌, ◌++◌, map, flat_map, Bool, true, false, cond, ◌||◌, ◌-◌, take, drop, refl, sym, subst, ◌∙◌, arith}
use Rattle.std.specs.Prelude.{codes}
use Rattle.std.specs.List.{AllByRecursion as Each}
use Rattle.std.specs.Str.{bytes_eq}
use Rattle.std.proofs.lemmas.Bool.{or_from}
use Rattle.std.proofs.lemmas.List.Folds.{list_any-append}
use Rattle.ctt_text.specs.Words.{words, begins_word, grow, IsFirstWord}
use Rattle.ctt_problem.specs.Named.{is_blank, AreNew, AreDistinct, IsWord, AreNames}
use Rattle.ctt_problem.specs.Lists.{Pairwise, each_once}
use Rattle.ctt_problem.specs.Problem.{is_among}
use Rattle.ctt_text.specs.InstanceText.{CourseWords, RoomWords, CurriculumWords, Given, spelled, spelled_header, spelled_course, spelled_room, spelled_curriculum, spelled_pair, course_names, room_names, curriculum_names, Obey, SaysInstance}
use Rattle.ctt_text.specs.InstanceLaws.{SpelledIsNamed}
use Rattle.ctt_problem.proofs.ListLaws.{Each-front, Each-rest, once_each, once_apart, apart_turned, bytes_sound}

-- a byte that is not blank, added before words
grow_words : (b : ℕ) (begins : Bool) (ws : List (List ℕ)) → is_blank b ≡ false → Each IsWord ws → Each IsWord (grow b begins ws)
grow_words b true [] h each = ((omega arith, (h, tt)), tt)
grow_words b true (w ∷ ws) h each = ((omega arith, (h, each.0.1)), each.1)
grow_words b false ws h each = ((omega arith, (h, tt)), each)

-- the words of a text are words
pub words_are_words : (text : List ℕ) → Each IsWord (words text)
unfolding words
words_are_words [] = tt
words_are_words (b ∷ bs) = by (words_are_words bs) (is_blank b) refl
  where
    by : Each IsWord (words bs) → (x : Bool) → is_blank b ≡ x → Each IsWord (cond x (words bs) (grow b (begins_word bs) (words bs)))
    by rest true e = rest
    by rest false e = grow_words b (begins_word bs) (words bs) e rest

-- the first word of a text is a word
pub first_is_word : (text : List ℕ) (start end : ℕ) → IsFirstWord text start end → IsWord (take (end - start) (drop start text))
first_is_word text start end at = (subst (Each IsWord) at.first (words_are_words text)).0

-- what holds of each word of a section holds of the names in it
module _ (P : List ℕ → Type 0) where
  course_names_each : (cs : List CourseWords) → Each P (flat_map spelled_course cs) → Each P (course_names cs)
  course_names_each [] each = tt
  course_names_each (c ∷ cs) each = (each.0, course_names_each cs each.1.1.1.1.1)

  teachers_each : (cs : List CourseWords) → Each P (flat_map spelled_course cs) → Each P (map (λ (c : CourseWords). c.teacher) cs)
  teachers_each [] each = tt
  teachers_each (c ∷ cs) each = (each.1.0, teachers_each cs each.1.1.1.1.1)

  room_names_each : (rs : List RoomWords) → Each P (flat_map spelled_room rs) → Each P (room_names rs)
  room_names_each [] each = tt
  room_names_each (r ∷ rs) each = (each.0, room_names_each rs each.1.1)

  curriculum_names_each : (qs : List CurriculumWords) → Each P (flat_map spelled_curriculum qs) → Each P (curriculum_names qs)
  curriculum_names_each [] each = tt
  curriculum_names_each (q ∷ qs) each = (each.0, curriculum_names_each qs (Each-rest P q.members (flat_map spelled_curriculum qs) each.1.1))

-- names that are pairwise distinct and not among the earlier names are new
new_names : (before names : List (List ℕ)) → Each (λ name. is_among before name ≡ false) names → Pairwise (λ a b. bytes_eq a b ≡ false) names → AreNew before names
new_names before [] apart pairs = tt
new_names before (name ∷ names) apart pairs = (apart.0, new_names (before ++ name ∷ []) names (behind names apart.1 pairs.0) pairs.1)
  where
    behind : (ns : List (List ℕ)) → Each (λ n. is_among before n ≡ false) ns → Each (λ n. bytes_eq name n ≡ false) ns → Each (λ n. is_among (before ++ name ∷ []) n ≡ false) ns
    behind [] a b = tt
    behind (n ∷ ns) a b = (list_any-append (bytes_eq n) before (name ∷ []) ∙ or_from (is_among before n) (bytes_eq n name || false) a.0 (or_from (bytes_eq n name) false (apart_turned bytes_eq bytes_sound name n b.0) refl), behind ns a.1 b.1)

pub pairs_distinct : (names : List (List ℕ)) → Pairwise (λ a b. bytes_eq a b ≡ false) names → AreDistinct names
pairs_distinct names pairs = new_names [] names (all_apart names) pairs
  where
    all_apart : (ns : List (List ℕ)) → Each (λ n. is_among [] n ≡ false) ns
    all_apart [] = tt
    all_apart (n ∷ ns) = (refl, all_apart ns)

-- the names without repetitions are distinct
pub teachers_distinct : (names : List (List ℕ)) → AreDistinct (each_once bytes_eq names)
teachers_distinct names = pairs_distinct (each_once bytes_eq names) (once_apart bytes_eq bytes_sound names)

pub spelled_is_named : SpelledIsNamed
spelled_is_named text i s =
    let g : Given = s.given in
    let o : Obey g = s.obey in
    let says : SaysInstance g i = s.says in
    let all : Each IsWord (spelled g) = Each-front IsWord (spelled g) s.rest (subst (λ ws. Each IsWord ws) s.all (words_are_words text)) in
    let pairs_on : List (List ℕ) = codes "UNAVAILABILITY_CONSTRAINTS:" ∷ flat_map spelled_pair g.pairs ++ (codes "END." ∷ []) in
    let curricula_on : List (List ℕ) = codes "CURRICULA:" ∷ flat_map spelled_curriculum g.curricula ++ pairs_on in
    let rooms_on : List (List ℕ) = codes "ROOMS:" ∷ flat_map spelled_room g.rooms ++ curricula_on in
    let from_courses : Each IsWord (flat_map spelled_course g.courses ++ rooms_on) = (Each-rest IsWord (spelled_header g.head) (codes "COURSES:" ∷ flat_map spelled_course g.courses ++ rooms_on) all).1 in
    let from_rooms : Each IsWord (flat_map spelled_room g.rooms ++ curricula_on) = (Each-rest IsWord (flat_map spelled_course g.courses) rooms_on from_courses).1 in
    let from_curricula : Each IsWord (flat_map spelled_curriculum g.curricula ++ pairs_on) = (Each-rest IsWord (flat_map spelled_room g.rooms) curricula_on from_rooms).1 in
    let courses : Each IsWord (flat_map spelled_course g.courses) = Each-front IsWord (flat_map spelled_course g.courses) rooms_on from_courses in
    let rooms : Each IsWord (flat_map spelled_room g.rooms) = Each-front IsWord (flat_map spelled_room g.rooms) curricula_on from_rooms in
    let curricula : Each IsWord (flat_map spelled_curriculum g.curricula) = Each-front IsWord (flat_map spelled_curriculum g.curricula) pairs_on from_curricula in
    record {
      name = subst (λ n. IsWord n) (sym says.name) all.1.0;
      courses = subst (λ ns. AreNames ns) (sym says.course_names) (o.courses_new, course_names_each IsWord g.courses courses);
      teachers = subst (λ ns. AreNames ns) (sym says.teacher_names) (teachers_distinct (map (λ c. c.teacher) g.courses), once_each bytes_eq bytes_sound IsWord (map (λ c. c.teacher) g.courses) (teachers_each IsWord g.courses courses));
      rooms = subst (λ ns. AreNames ns) (sym says.room_names) (o.rooms_new, room_names_each IsWord g.rooms rooms);
      curricula = subst (λ ns. AreNames ns) (sym says.curriculum_names) (o.curricula_new, curriculum_names_each IsWord g.curricula curricula);
    }
