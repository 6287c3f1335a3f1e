-- The small instance of the examples, word by word: parsed whole, truncated and with variations.
use Rattle.std.proofs.Common.{◌≡◌, ℕ, List, [], ◌∷◌, ◌++◌, ◌+◌, length, map, take, true, false, Ok, Err, refl}
use Rattle.std.specs.Prelude.{codes}
use Rattle.std.specs.List.{range_with_len}
use Rattle.ctt_text.specs.declared.fault.ReadFault.TheVariants.{Expected, BadNumber, TooLarge, RepeatedName, UnknownCourse, DayOut, PeriodOut, Missing}
use Rattle.ctt_text.specs.Words.{words}
use Rattle.ctt_problem.specs.Named.{is_blank}
use Rattle.ctt_text.specs.Forms.{read, ◌>>=◌, times}
use Rattle.ctt_problem.specs.Problem.{Problem}
use Rattle.ctt_text.specs.Places.{one, known, any, fixed, number, number_if, new_name, known_name}
use Rattle.ctt_text.specs.InstancePlaces.{number_up_to, period_count, two_counts, calendar, day_below, period_below, header, course, room, member, curriculum, unavailability, instance}
use Rattle.ctt_text.specs.InstanceText.{Spells}
use Rattle.ctt_text.specs.InstanceLaws.{answer}
use Rattle.ctt_text.proofs.InstanceLaws.{reads_what_is_spelled}

unfoldable small : List (List ℕ)
small = words (codes "Name: Small\nCourses: 3\nRooms: 2\nDays: 2\nPeriods_per_day: 3\nCurricula: 1\nConstraints: 1\nCOURSES:\nalg t1 2 2 30\ngeo t2 2 1 20\ntop t1 1 1 50\nROOMS:\nA 25\nB 40\nCURRICULA:\nq1 2 alg geo\nUNAVAILABILITY_CONSTRAINTS:\ngeo 0 0\nEND.\n")

unfoldable pub small_instance : Problem
small_instance = record {
  name = codes "Small";
  course_names = codes "alg" ∷ codes "geo" ∷ codes "top" ∷ [];
  courses = record { teacher = 0; lectures = 2; min_days = 2; students = 30 } ∷ record { teacher = 1; lectures = 2; min_days = 1; students = 20 } ∷ record { teacher = 0; lectures = 1; min_days = 1; students = 50 } ∷ [];
  teacher_names = codes "t1" ∷ codes "t2" ∷ [];
  room_names = codes "A" ∷ codes "B" ∷ [];
  capacities = 25 ∷ 40 ∷ [];
  curriculum_names = codes "q1" ∷ [];
  curricula = (0 ∷ 1 ∷ []) ∷ [];
  days = 2;
  periods = 3;
  unavailable = false ∷ false ∷ false ∷ false ∷ false ∷ false ∷ true ∷ false ∷ false ∷ false ∷ false ∷ false ∷ false ∷ false ∷ false ∷ false ∷ false ∷ false ∷ [];
  closed = false ∷ false ∷ false ∷ false ∷ false ∷ false ∷ false ∷ false ∷ false ∷ false ∷ false ∷ false ∷ false ∷ false ∷ false ∷ false ∷ false ∷ false ∷ [];
  barred = false ∷ false ∷ false ∷ false ∷ false ∷ false ∷ [];
  blocked = false ∷ false ∷ false ∷ false ∷ false ∷ false ∷ false ∷ false ∷ false ∷ false ∷ false ∷ false ∷ [];
}

-- the instance with these words in its header, and this count of members
unfoldable written : List ℕ → List ℕ → List ℕ → List ℕ → List ℕ → List (List ℕ)
written courses days periods constraints count =
    words (codes "Name: Small Courses:") ++ (courses ∷ words (codes "Rooms: 2 Days:") ++ (days ∷ codes "Periods_per_day:" ∷ periods ∷ words (codes "Curricula: 1 Constraints:")
    ++ (constraints ∷ words (codes "COURSES: alg t1 2 2 30 geo t2 2 1 20 top t1 1 1 50 ROOMS: A 25 B 40 CURRICULA: q1") ++ (count ∷ words (codes "alg geo UNAVAILABILITY_CONSTRAINTS: geo 0 0 END.")))))

-- it is parsed
is_read : answer small ≡ Ok small_instance
unfolding read ◌>>=◌ times words is_blank one known any fixed number number_if new_name known_name number_up_to period_count two_counts calendar day_below period_below header course room member curriculum unavailability instance small small_instance
is_read = refl

-- its words spell it
is_spelled : Spells small small_instance
is_spelled = (reads_what_is_spelled small small_instance).0 is_read

-- cut after k words, for each k below their number, word k + 1 is missing
cuts : map (λ k. answer (take k small)) (range_with_len 0 45) ≡ map (λ k. Err (Missing (k + 1))) (range_with_len 0 45)
unfolding read ◌>>=◌ times words is_blank one known any fixed number number_if new_name known_name number_up_to period_count two_counts calendar day_below period_below header course room member curriculum unavailability instance small
cuts = refl

-- the number of its words
small_words : length small ≡ 45
unfolding read ◌>>=◌ times words is_blank one known any fixed number number_if new_name known_name number_up_to period_count two_counts calendar day_below period_below header course room member curriculum unavailability instance small
small_words = refl

-- the same words again
same_again : answer (written (codes "3") (codes "2") (codes "3") (codes "1") (codes "2")) ≡ Ok small_instance
unfolding read ◌>>=◌ times words is_blank one known any fixed number number_if new_name known_name number_up_to period_count two_counts calendar day_below period_below header course room member curriculum unavailability instance written small_instance
same_again = refl

-- four courses are stated and three given: the words after them are parsed as the fourth
four_courses : answer (written (codes "4") (codes "2") (codes "3") (codes "1") (codes "2")) ≡ Err (BadNumber 34)
unfolding read ◌>>=◌ times words is_blank one known any fixed number number_if new_name known_name number_up_to period_count two_counts calendar day_below period_below header course room member curriculum unavailability instance written
four_courses = refl

-- leading zeros of a number
leading_zeros : answer (written (codes "0003") (codes "2") (codes "3") (codes "1") (codes "2")) ≡ Ok small_instance
unfolding read ◌>>=◌ times words is_blank one known any fixed number number_if new_name known_name number_up_to period_count two_counts calendar day_below period_below header course room member curriculum unavailability instance written small_instance
leading_zeros = refl

-- more courses than the format allows
many_courses : answer (written (codes "2001") (codes "2") (codes "3") (codes "1") (codes "2")) ≡ Err (TooLarge 4)
unfolding read ◌>>=◌ times words is_blank one known any fixed number number_if new_name known_name number_up_to period_count two_counts calendar day_below period_below header course room member curriculum unavailability instance written
many_courses = refl

-- more digits than a number has
no_number : answer (written (codes "1000000000") (codes "2") (codes "3") (codes "1") (codes "2")) ≡ Err (BadNumber 4)
unfolding read ◌>>=◌ times words is_blank one known any fixed number number_if new_name known_name number_up_to period_count two_counts calendar day_below period_below header course room member curriculum unavailability instance written
no_number = refl

-- few days and few periods, but too many slots
many_slots : answer (written (codes "3") (codes "2000") (codes "2") (codes "1") (codes "2")) ≡ Err (TooLarge 10)
unfolding read ◌>>=◌ times words is_blank one known any fixed number number_if new_name known_name number_up_to period_count two_counts calendar day_below period_below header course room member curriculum unavailability instance written
many_slots = refl

-- more constraints than there are pairs
false_constraints : answer (written (codes "3") (codes "2") (codes "3") (codes "2000000") (codes "2")) ≡ Err (UnknownCourse 45)
unfolding read ◌>>=◌ times words is_blank one known any fixed number number_if new_name known_name number_up_to period_count two_counts calendar day_below period_below header course room member curriculum unavailability instance written
false_constraints = refl

-- more members stated than given
false_members : answer (written (codes "3") (codes "2") (codes "3") (codes "1") (codes "999999999")) ≡ Err (UnknownCourse 41)
unfolding read ◌>>=◌ times words is_blank one known any fixed number number_if new_name known_name number_up_to period_count two_counts calendar day_below period_below header course room member curriculum unavailability instance written
false_members = refl

-- a day that is out of range
no_days : answer (written (codes "3") (codes "0") (codes "3") (codes "1") (codes "2")) ≡ Err (DayOut 43)
unfolding read ◌>>=◌ times words is_blank one known any fixed number number_if new_name known_name number_up_to period_count two_counts calendar day_below period_below header course room member curriculum unavailability instance written
no_days = refl

-- a period that is out of range
no_periods : answer (written (codes "3") (codes "2") (codes "0") (codes "1") (codes "2")) ≡ Err (PeriodOut 44)
unfolding read ◌>>=◌ times words is_blank one known any fixed number number_if new_name known_name number_up_to period_count two_counts calendar day_below period_below header course room member curriculum unavailability instance written
no_periods = refl

-- blanks of each kind, a member and a pair that occur twice, and words after the end
otherwise_written : answer (words (codes "Name:\tSmall Courses: 0003  Rooms: 2 Days: 2 Periods_per_day: 3 Curricula: 1 Constraints: 2 COURSES: alg t1 2 2 30 geo t2 2 1 20 top t1 1 1 50 ROOMS: A 25 B 40 CURRICULA: q1 3 alg geo alg UNAVAILABILITY_CONSTRAINTS: geo 0 0 geo 0 0 END. and more")) ≡ Ok small_instance
unfolding read ◌>>=◌ times words is_blank one known any fixed number number_if new_name known_name number_up_to period_count two_counts calendar day_below period_below header course room member curriculum unavailability instance small_instance
otherwise_written = refl

-- nothing at all
all_zero : answer (words (codes "Name: none Courses: 0 Rooms: 0 Days: 0 Periods_per_day: 0 Curricula: 0 Constraints: 0 COURSES: ROOMS: CURRICULA: UNAVAILABILITY_CONSTRAINTS: END."))
    ≡ Ok (record { name = codes "none"; course_names = []; courses = []; teacher_names = []; room_names = []; capacities = []; curriculum_names = []; curricula = []; days = 0; periods = 0; unavailable = []; closed = []; barred = []; blocked = [] })
unfolding read ◌>>=◌ times words is_blank one known any fixed number number_if new_name known_name number_up_to period_count two_counts calendar day_below period_below header course room member curriculum unavailability instance
all_zero = refl

-- a name that occurs twice
twice_named : answer (words (codes "Name: none Courses: 0 Rooms: 2 Days: 0 Periods_per_day: 0 Curricula: 0 Constraints: 0 COURSES: ROOMS: A 1 A 2")) ≡ Err (RepeatedName 19)
unfolding read ◌>>=◌ times words is_blank one known any fixed number number_if new_name known_name number_up_to period_count two_counts calendar day_below period_below header course room member curriculum unavailability instance
twice_named = refl

-- a fixed word in the wrong case
wrong_label : answer (words (codes "Name: none courses: 0")) ≡ Err (Expected 3)
unfolding read ◌>>=◌ times words is_blank one known any fixed number number_if new_name known_name number_up_to period_count two_counts calendar day_below period_below header course room member curriculum unavailability instance
wrong_label = refl
