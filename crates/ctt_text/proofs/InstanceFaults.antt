-- The faults of the places of an instance carry the number of a word.
use Rattle.std.proofs.Common.{ℕ, List, Bool, codes}
use Rattle.ctt_text.specs.declared.fault.ReadFault.{ReadFault}
use Rattle.ctt_text.specs.declared.fault.ReadFault.TheVariants.{NotText, Expected, BadNumber, TooLarge, RepeatedName, UnknownCourse, DayOut, PeriodOut, NoMemory}
use Rattle.ctt_text.specs.Forms.{Form, ◌>>=◌}
use Rattle.ctt_text.specs.Places.{after, number, new_name, known_name}
use Rattle.ctt_text.specs.InstancePlaces.{Courses, Rooms, Curricula, number_up_to, period_count, two_counts, calendar, header, course, room, member, curriculum, day_below, period_below, unavailability, instance}
use Rattle.ctt_text.proofs.FaultLaws.{FormFaults, bind_faults, times_faults, any_faults, fixed_faults, number_faults, number_if_faults, new_name_faults, known_name_faults}

-- a fault of a place, which carries the number of a word
abbrev pub IsOfWord : ReadFault → Type 0
IsOfWord (NotText byte) = ⊥
IsOfWord NoMemory = ⊥
IsOfWord fault = Unit {0}

abbrev Names : {A : Type 0} → Form ReadFault A → Type 0
Names form = FormFaults IsOfWord form

then : {A B : Type 0} (form : Form ReadFault A) (g : A → Form ReadFault B) → Names form → ((a : A) → Names (g a)) → Names (form >>= g)
then form g h k = bind_faults IsOfWord form g h k

behind : {A : Type 0} (label : List ℕ) (form : Form ReadFault A) → Names form → Names (after Expected label form)
behind label form h = then _ _ (fixed_faults IsOfWord Expected label (λ k. tt)) (λ _. h)

limited : (greatest : ℕ) → Names (number_up_to greatest)
unfolding number_up_to
limited greatest = number_if_faults IsOfWord BadNumber TooLarge _ (λ k. tt) (λ k. tt)

counts : (a : List ℕ) (m : ℕ) (b : List ℕ) (n : ℕ) → Names (two_counts a m b n)
unfolding two_counts
counts a m b n = then _ _ (behind a _ (limited m)) (λ first. then _ _ (behind b _ (limited n)) (λ second. tt))

days_periods : Names calendar
unfolding calendar period_count
days_periods = then _ _ (behind _ _ (limited 2000)) (λ days. then _ _ (behind _ _ (number_if_faults IsOfWord BadNumber TooLarge _ (λ k. tt) (λ k. tt))) (λ periods. tt))

header_faults : Names header
unfolding header
header_faults = then _ _ (behind _ _ (any_faults IsOfWord)) (λ name. then _ _ (counts _ _ _ _) (λ places. then _ _ days_periods (λ times. then _ _ (counts _ _ _ _) (λ lists. tt))))

a_number : Names (number BadNumber)
a_number = number_faults IsOfWord BadNumber (λ k. tt)

a_new_name : (names : List (List ℕ)) → Names (new_name RepeatedName names)
a_new_name names = new_name_faults IsOfWord RepeatedName names (λ k. tt)

a_course : (names : List (List ℕ)) → Names (known_name UnknownCourse names)
a_course names = known_name_faults IsOfWord UnknownCourse names (λ k. tt)

course_faults : (s : Courses) → Names (course s)
unfolding course
course_faults s = then _ _ (a_new_name s.names) (λ name. then _ _ (any_faults IsOfWord) (λ teacher. then _ _ a_number (λ lectures. then _ _ a_number (λ min_days. then _ _ a_number (λ students. tt)))))

room_faults : (s : Rooms) → Names (room s)
unfolding room
room_faults s = then _ _ (a_new_name s.names) (λ name. then _ _ a_number (λ capacity. tt))

member_faults : (courses : List (List ℕ)) (s : List ℕ) → Names (member courses s)
unfolding member
member_faults courses s = then _ _ (a_course courses) (λ number. tt)

curriculum_faults : (courses : List (List ℕ)) (s : Curricula) → Names (curriculum courses s)
unfolding curriculum
curriculum_faults courses s = then _ _ (a_new_name s.names) (λ name. then _ _ a_number (λ count. then _ _ (times_faults IsOfWord (member courses) (member_faults courses) count _) (λ members. tt)))

pair_faults : (courses : List (List ℕ)) (days periods : ℕ) (s : List Bool) → Names (unavailability courses days periods s)
unfolding unavailability day_below period_below
pair_faults courses days periods s = then _ _ (a_course courses) (λ number. then _ _ (number_if_faults IsOfWord BadNumber DayOut _ (λ k. tt) (λ k. tt)) (λ day. then _ _ (number_if_faults IsOfWord BadNumber PeriodOut _ (λ k. tt) (λ k. tt)) (λ period. tt)))

pub instance_faults : Names instance
unfolding instance
instance_faults =
    then _ _ header_faults (λ head.
    then _ _ (behind _ _ (times_faults IsOfWord course course_faults head.courses _)) (λ courses.
    then _ _ (behind _ _ (times_faults IsOfWord room room_faults head.rooms _)) (λ rooms.
    then _ _ (behind _ _ (times_faults IsOfWord (curriculum courses.names) (curriculum_faults courses.names) head.curricula _)) (λ curricula.
    then _ _ (behind _ _ (times_faults IsOfWord (unavailability courses.names head.days head.periods) (pair_faults courses.names head.days head.periods) head.constraints _)) (λ unavailable.
    then _ _ (fixed_faults IsOfWord Expected (codes "END.") (λ k. tt)) (λ end. tt))))))
