-- The whole text of an instance: what fills its form is exactly what is spelled.
use Rattle.std.proofs.Common.{◌≡◌, ℕ, ◌+◌, ◌*◌, ◌<◌, List, [], ◌∷◌, ◌++◌, length, map, flat_map, Bool, true, false, ◌||◌, refl, sym, ap, subst, ◌∙◌}
use Rattle.std.specs.Prelude.{codes, get_or, replicate}
use Rattle.std.proofs.lemmas.List.{length-map}
use Rattle.std.proofs.lemmas.Bool.{lt-ltb}
use Rattle.ctt_text.specs.declared.fault.ReadFault.{ReadFault}
use Rattle.ctt_text.specs.declared.fault.ReadFault.TheVariants.{Expected}
use Rattle.ctt_problem.specs.declared.course_facts.CourseFacts.{CourseFacts}
use Rattle.ctt_text.specs.Numbers.{value}
use Rattle.ctt_problem.specs.Problem.{Problem, is_unavailable}
use Rattle.ctt_text.specs.Forms.{Form, done, ◌>>=◌, times, Fills}
use Rattle.ctt_text.specs.Places.{one, known, fixed, after}
use Rattle.ctt_text.specs.InstancePlaces.{Header, Courses, Rooms, Curricula, header, course, room, curriculum, unavailability, no_courses, no_rooms, no_curricula, all_available, problem_of, instance}
use Rattle.ctt_text.specs.InstanceText.{Given, spelled_header, spelled_course, spelled_room, spelled_curriculum, spelled_pair, spelled, course_names, facts_of, members_of, Obey, SaysInstance, Spells}
use Rattle.ctt_problem.proofs.MarkLemmas.{all_alike}
use Rattle.ctt_text.proofs.FormLaws.{fills_both, bind_case}
use Rattle.ctt_text.proofs.InstanceSections.{header_of, header_fills, header_taken, rooms_of, rooms_fill, rooms_taken, courses_of, courses_fill, courses_taken, curricula_of, curricula_fill, curricula_taken, pairs_fill, pairs_taken, table_of, table_many, table_says, table_same}
use Rattle.ctt_text.proofs.PlaceLaws.{is_fixed, after_case}

-- the instance that the words describe, with a table of where courses are unavailable
abbrev said : Given → List Bool → Problem
said g table = problem_of (header_of g.head) (courses_of g.courses) (rooms_of g.rooms) (curricula_of (course_names g.courses) g.curricula) table

abbrev days_of : Given → ℕ
days_of g = value g.head.days

abbrev periods_of : Given → ℕ
periods_of g = value g.head.periods

-- the table that the pairs make
abbrev table : Given → List Bool
table g = table_of (course_names g.courses) (days_of g) (periods_of g) (value g.head.courses) g.pairs

-- problems are equal if their fields are
problem_same : (n n' : List ℕ) (cn cn' : List (List ℕ)) (c c' : List CourseFacts) (t t' rn rn' : List (List ℕ)) (r r' : List ℕ) (qn qn' q q' : List (List ℕ)) (d d' p p' : ℕ) (u : List Bool)
    → n ≡ n' → cn ≡ cn' → c ≡ c' → t ≡ t' → rn ≡ rn' → r ≡ r' → qn ≡ qn' → q ≡ q' → d ≡ d' → p ≡ p'
    → ◌≡◌ {A = Problem}
    (record { name = n; course_names = cn; courses = c; teacher_names = t; room_names = rn; capacities = r; curriculum_names = qn; curricula = q; days = d; periods = p; unavailable = u; closed = replicate (length c * (d * p)) false; barred = replicate (length c * length r) false; blocked = replicate (length r * (d * p)) false })
    (record { name = n'; course_names = cn'; courses = c'; teacher_names = t'; room_names = rn'; capacities = r'; curriculum_names = qn'; curricula = q'; days = d'; periods = p'; unavailable = u; closed = replicate (length c' * (d' * p')) false; barred = replicate (length c' * length r') false; blocked = replicate (length r' * (d' * p')) false })
problem_same n n' cn cn' c c' t t' rn rn' r r' qn qn' q q' d d' p p' u e0 e1 e2 e3 e4 e5 e6 e7 e8 e9 = rw (e0, e1, e2, e3, e4, e5, e6, e7, e8, e9) refl

-- an instance in which nothing is closed
nothing_closed : (i : Problem) → i.closed ≡ replicate (length i.courses * (i.days * i.periods)) false → i.barred ≡ replicate (length i.courses * length i.capacities) false → i.blocked ≡ replicate (length i.capacities * (i.days * i.periods)) false
    → i ≡ record i {
      closed = replicate (length i.courses * (i.days * i.periods)) false;
      barred = replicate (length i.courses * length i.capacities) false;
      blocked = replicate (length i.capacities * (i.days * i.periods)) false;
    }
nothing_closed i closed barred blocked = ap (λ x. record i { closed = x }) closed ∙ ap (λ x. record i { closed = replicate (length i.courses * (i.days * i.periods)) false; barred = x }) barred
    ∙ ap (λ x. record i { closed = replicate (length i.courses * (i.days * i.periods)) false; barred = replicate (length i.courses * length i.capacities) false; blocked = x }) blocked

-- the words determine all but the table
is_said : (g : Given) (i : Problem) → SaysInstance g i → i ≡ said g i.unavailable
is_said g i says = nothing_closed i says.closed says.barred says.blocked ∙ problem_same _ _ _ _ _ _ _ _ _ _ _ _ _ _ _ _ _ _ _ _ i.unavailable
    says.name
    says.course_names
    (says.courses ∙ ap (λ ts. map (facts_of ts) g.courses) says.teacher_names)
    says.teacher_names
    says.room_names
    says.capacities
    says.curriculum_names
    (says.curricula ∙ ap (λ ns. map (members_of ns) g.curricula) says.course_names)
    says.days
    says.periods

-- the number of courses
courses_many : (g : Given) → Obey g → length (said g (table g)).courses ≡ value g.head.courses
courses_many g o = length-map g.courses _ ∙ sym o.courses_counted

or_false : (b : Bool) → (b || false) ≡ b
or_false true = refl
or_false false = refl

-- a slot in range is looked up in the table, as nothing is closed
pub looked_up : (i : Problem) (c s : ℕ) → i.closed ≡ replicate (length i.courses * (i.days * i.periods)) false → s < i.days * i.periods → is_unavailable i c s ≡ get_or i.unavailable (c * (i.days * i.periods) + s) false
looked_up i c s none lt =
    let place : ℕ = c * (i.days * i.periods) + s in
    rw (lt-ltb s (i.days * i.periods) lt, none, all_alike false (length i.courses * (i.days * i.periods)) place) (or_false (get_or i.unavailable place false))

-- the table that the pairs make is the one that the words describe
table_is_said : (g : Given) (o : Obey g) (marks : List Bool) → SaysInstance g (said g marks) → table g ≡ marks
table_is_said g o marks says =
    let many : length (said g marks).courses ≡ value g.head.courses = courses_many g o in
    table_same (course_names g.courses) (days_of g) (periods_of g) (value g.head.courses) g.pairs o.pairs marks
    (says.marks ∙ ap (λ n. n * (days_of g * periods_of g)) many)
    (λ c s known lt. sym (looked_up (said g marks) c s refl lt) ∙ says.unavailable c s (subst (λ n. c < n) (sym many) known) lt)

-- the words describe the instance with the table that their pairs make
says_table : (g : Given) → Obey g → SaysInstance g (said g (table g))
says_table g o =
    let many : length (said g (table g)).courses ≡ value g.head.courses = courses_many g o in
    record {
      name = refl;
      days = refl;
      periods = refl;
      course_names = refl;
      teacher_names = refl;
      courses = refl;
      room_names = refl;
      capacities = refl;
      curriculum_names = refl;
      curricula = refl;
      marks = table_many (course_names g.courses) (days_of g) (periods_of g) (value g.head.courses) g.pairs ∙ ap (λ n. n * (days_of g * periods_of g)) (sym many);
      unavailable = λ c s known lt. looked_up (said g (table g)) c s refl lt ∙ table_says (course_names g.courses) (days_of g) (periods_of g) (value g.head.courses) g.pairs o.pairs c s (subst (λ n. c < n) many known) lt;
      closed = refl;
      barred = refl;
      blocked = refl;
    }

-- what is spelled fills the form
spelled_fills : (g : Given) → Obey g → Fills instance (spelled g) (said g (table g))
unfolding instance fixed known one ◌>>=◌
spelled_fills g o =
    let names = course_names g.courses in
    let i : Problem = said g (table g) in
    fills_both header _ (spelled_header g.head) _ (header_of g.head) i (header_fills g.head o.header) (
      refl,
      fills_both (times course (value g.head.courses) no_courses) _ (flat_map spelled_course g.courses) _ (courses_of g.courses) i
          (subst (λ n. Fills (times course n no_courses) (flat_map spelled_course g.courses) (courses_of g.courses)) (sym o.courses_counted) (courses_fill g.courses o.courses_new o.courses)) (
            refl,
            fills_both (times room (value g.head.rooms) no_rooms) _ (flat_map spelled_room g.rooms) _ (rooms_of g.rooms) i
                (subst (λ n. Fills (times room n no_rooms) (flat_map spelled_room g.rooms) (rooms_of g.rooms)) (sym o.rooms_counted) (rooms_fill g.rooms o.rooms_new o.rooms)) (
                  refl,
                  fills_both (times (curriculum names) (value g.head.curricula) no_curricula) _ (flat_map spelled_curriculum g.curricula) _ (curricula_of names g.curricula) i
                      (subst (λ n. Fills (times (curriculum names) n no_curricula) (flat_map spelled_curriculum g.curricula) (curricula_of names g.curricula)) (sym o.curricula_counted) (curricula_fill names g.curricula o.curricula_new o.curricula)) (
                        refl,
                        fills_both (times (unavailability names (days_of g) (periods_of g)) (value g.head.constraints) (all_available (header_of g.head))) _ (flat_map spelled_pair g.pairs) (codes "END." ∷ []) (table g) i
                            (subst (λ n. Fills (times (unavailability names (days_of g) (periods_of g)) n (all_available (header_of g.head))) (flat_map spelled_pair g.pairs) (table g)) (sym o.pairs_counted)
                            (pairs_fill names (days_of g) (periods_of g) g.pairs (all_available (header_of g.head)) o.pairs))
                            (refl, refl),
                      ),
                ),
          ),
    )

-- words that spell an instance fill the form with it
pub instance_fills : (g : Given) → Obey g → (i : Problem) → SaysInstance g i → Fills instance (spelled g) i
instance_fills g o i says =
    let is : i ≡ said g i.unavailable = is_said g i says in
    let same : table g ≡ i.unavailable = table_is_said g o i.unavailable (subst (λ j. SaysInstance g j) is says) in
    subst (λ j. Fills instance (spelled g) j) (ap (λ marks. said g marks) same ∙ sym is) (spelled_fills g o)

-- what comes after each part of the form
abbrev from_end : Header → Courses → Rooms → Curricula → List Bool → Form ReadFault Problem
from_end head courses rooms curricula unavailable = fixed Expected (codes "END.") >>= λ _. done (problem_of head courses rooms curricula unavailable)

abbrev from_pairs : Header → Courses → Rooms → Curricula → Form ReadFault Problem
from_pairs head courses rooms curricula =
    after Expected (codes "UNAVAILABILITY_CONSTRAINTS:") (times (unavailability courses.names head.days head.periods) head.constraints (all_available head)) >>= from_end head courses rooms curricula

abbrev from_curricula : Header → Courses → Rooms → Form ReadFault Problem
from_curricula head courses rooms = after Expected (codes "CURRICULA:") (times (curriculum courses.names) head.curricula no_curricula) >>= from_pairs head courses rooms

abbrev from_rooms : Header → Courses → Form ReadFault Problem
from_rooms head courses = after Expected (codes "ROOMS:") (times room head.rooms no_rooms) >>= from_curricula head courses

abbrev from_courses : Header → Form ReadFault Problem
from_courses head = after Expected (codes "COURSES:") (times course head.courses no_courses) >>= from_rooms head

-- what fills the end is its word
end_taken : (x i : Problem) (words : List (List ℕ)) → Fills (fixed Expected (codes "END.") >>= λ _. done x) words i → (words ≡ codes "END." ∷ []) × (x ≡ i)
unfolding fixed known one ◌>>=◌
end_taken x i [] h = absurd h
end_taken x i (w ∷ []) h = (ap (λ q. q ∷ []) (is_fixed Expected w (codes "END.") h.0), h.1)
end_taken x i (w ∷ more ∷ ws) h = absurd h.1

-- the parts of a text, one after another
all_parts : (words us0 us1 us2 us3 us4 vs0 vs1 vs2 vs3 vs4 ws0 ws1 ws2 ws3 ws4 : List (List ℕ))
    → words ≡ us0 ++ vs0 → vs0 ≡ codes "COURSES:" ∷ us1 ++ vs1 → vs1 ≡ codes "ROOMS:" ∷ us2 ++ vs2 → vs2 ≡ codes "CURRICULA:" ∷ us3 ++ vs3 → vs3 ≡ codes "UNAVAILABILITY_CONSTRAINTS:" ∷ us4 ++ vs4 → vs4 ≡ codes "END." ∷ []
    → us0 ≡ ws0 → us1 ≡ ws1 → us2 ≡ ws2 → us3 ≡ ws3 → us4 ≡ ws4
    → words ≡ ws0 ++ (codes "COURSES:" ∷ ws1 ++ (codes "ROOMS:" ∷ ws2 ++ (codes "CURRICULA:" ∷ ws3 ++ (codes "UNAVAILABILITY_CONSTRAINTS:" ∷ ws4 ++ (codes "END." ∷ [])))))
all_parts words us0 us1 us2 us3 us4 vs0 vs1 vs2 vs3 vs4 ws0 ws1 ws2 ws3 ws4 e0 e1 e2 e3 e4 e5 f0 f1 f2 f3 f4 = rw (e0, e1, e2, e3, e4, e5, f0, f1, f2, f3, f4) refl

-- what fills the form is spelled, whatever follows it
pub instance_taken : (words rest : List (List ℕ)) (i : Problem) → Fills instance words i → Spells (words ++ rest) i
unfolding instance ◌>>=◌
instance_taken words rest i filled =
    bind_case (Spells (words ++ rest) i) header from_courses words i filled (λ us0 vs0 head p0 q0 e0.
    let h = header_taken us0 head p0 in
    let head_of : Header = header_of h.given in
    let days = value h.given.days in
    let periods = value h.given.periods in
    after_case (Spells (words ++ rest) i) Expected (codes "COURSES:") (times course head_of.courses no_courses) (from_rooms head_of) vs0 i (subst (λ x. Fills (from_courses x) vs0 i) (sym h.gives) q0) (λ us1 vs1 courses p1 q1 e1.
    let c = courses_taken head_of.courses us1 courses p1 in
    let names = course_names c.given in
    after_case (Spells (words ++ rest) i) Expected (codes "ROOMS:") (times room head_of.rooms no_rooms) (from_curricula head_of (courses_of c.given)) vs1 i (subst (λ x. Fills (from_rooms head_of x) vs1 i) (sym c.gives) q1) (λ us2 vs2 rooms p2 q2 e2.
    let r = rooms_taken head_of.rooms us2 rooms p2 in
    after_case (Spells (words ++ rest) i) Expected (codes "CURRICULA:") (times (curriculum names) head_of.curricula no_curricula) (from_pairs head_of (courses_of c.given) (rooms_of r.given)) vs2 i
    (subst (λ x. Fills (from_curricula head_of (courses_of c.given) x) vs2 i) (sym r.gives) q2) (λ us3 vs3 curricula p3 q3 e3.
    let q = curricula_taken names head_of.curricula us3 curricula p3 in
    after_case (Spells (words ++ rest) i) Expected (codes "UNAVAILABILITY_CONSTRAINTS:") (times (unavailability names days periods) head_of.constraints (all_available head_of)) (from_end head_of (courses_of c.given) (rooms_of r.given) (curricula_of names q.given)) vs3 i
    (subst (λ x. Fills (from_pairs head_of (courses_of c.given) (rooms_of r.given) x) vs3 i) (sym q.gives) q3) (λ us4 vs4 unavailable p4 q4 e4.
    let u = pairs_taken names days periods head_of.constraints (all_available head_of) us4 unavailable p4 in
    let end = end_taken (problem_of head_of (courses_of c.given) (rooms_of r.given) (curricula_of names q.given) unavailable) i vs4 q4 in
    let g : Given = record { head = h.given; courses = c.given; rooms = r.given; curricula = q.given; pairs = u.given } in
    let obey : Obey g = record {
      header = h.obeys;
      courses_counted = sym c.count;
      rooms_counted = sym r.count;
      curricula_counted = sym q.count;
      pairs_counted = sym u.count;
      courses = c.each;
      courses_new = c.new;
      rooms = r.each;
      rooms_new = r.new;
      curricula = q.each;
      curricula_new = q.new;
      pairs = u.each;
    } in
    record {
      given = g;
      rest = rest;
      all = ap (λ ws. ws ++ rest) (all_parts words us0 us1 us2 us3 us4 vs0 vs1 vs2 vs3 vs4 (spelled_header h.given) (flat_map spelled_course c.given) (flat_map spelled_room r.given) (flat_map spelled_curriculum q.given) (flat_map spelled_pair u.given) e0 e1 e2 e3 e4 end.0 h.all c.all r.all q.all u.all);
      obey = obey;
      says = subst (λ j. SaysInstance g j) (ap (λ marks. said g marks) u.gives ∙ end.1) (says_table g obey);
    })))))
