-- The slots that an entry of closures is about, and the marks that it adds.
use Rattle.std.proofs.Common.{◌≡◌, ℕ, ◌+◌, ◌*◌, ◌/◌, ◌%◌, ◌<◌, ◌≤◌, Bool, true, false, ◌==◌, ◌&&◌, ◌||◌, nat_lt, List, length, take, take_all, zero-add, refl, sym, ap, ap₂, subst, ◌∙◌, arith}
use Rattle.std.specs.Prelude.{get_or}
use Rattle.std.proofs.lemmas.Bool.{lt-ltb, ltb-true, eqb-true, eqb-false, eq-eqb, and_parts}
use Rattle.std.proofs.lemmas.Bool.Decides.{nat_tests}
use Rattle.std.proofs.lemmas.Nat.{div-add-mod', div_below, div-mul-add, mod-mul-add}
use Rattle.std.proofs.lemmas.List.{ext_get_or}
use Rattle.std.proofs.lemmas.List.FromFn.{length-map-range_with_len, get_or-map-range_with_len}
use Rattle.ctt_text.specs.declared.instance.closing.Closing.{Closing}
use Rattle.ctt_text.specs.declared.instance.closing.Tables.{Tables}
use Rattle.ctt_problem.specs.Lists.{has}
use Rattle.ctt_problem.specs.Problem.{Problem, course_of, course_count, room_count, slot_count, slot_of, day_of, period_of}
use Rattle.ctt_problem.specs.Taught.{courses_taught_by}
use Rattle.ctt_problem.specs.BitRows.{BitTable, is_marked_in, marks_of, HasSize, AddsMarks}
use Rattle.ctt_problem.proofs.TableLemmas.{bool_case, place_within}
use Rattle.ctt_problem.proofs.MarkLaws.{Row, row_of, some_columns}
use Rattle.ctt_problem.proofs.BitRowLemmas.{marks_length, mark_at}
use Rattle.ctt_problem.proofs.TogetherLemmas.{has_below}
use Rattle.ctt_text.specs.BlockedPlaces.{is_of_course, is_of_room, covers_slot, with_marks, with_closing, AreTablesOf, closures_in}

-- a slot is that of a day and a period exactly if it is in range, on the day and in the period
is_slot : (i : Problem) (day period n : ℕ) → day < i.days → period < i.periods → (n == slot_of i day period) ≡ (nat_lt n (slot_count i) && (day_of i n == day && period_of i n == period))
is_slot i day period n d p = bool_case _ (n == slot_of i day period)
    (λ is.
    let e : n ≡ day * i.periods + period = eqb-true n (slot_of i day period) is in
    let within : n < slot_count i = subst (λ m. m < slot_count i) (sym e) (place_within day period i.periods i.days d p) in
    let on : n / i.periods ≡ day = ap (λ m. m / i.periods) e ∙ div-mul-add day i.periods period p in
    let in_it : n % i.periods ≡ period = ap (λ m. m % i.periods) e ∙ mod-mul-add day i.periods period p in
    rw (is, lt-ltb n (slot_count i) within, eq-eqb (n / i.periods) day on, eq-eqb (n % i.periods) period in_it) refl)
    (λ isnt. rw isnt (bool_case _ (nat_lt n (slot_count i) && (day_of i n == day && period_of i n == period))
    (λ all.
    let parts = and_parts (day_of i n == day) (period_of i n == period) (and_parts (nat_lt n (slot_count i)) (day_of i n == day && period_of i n == period) all).1 in
    absurd (eqb-false n (slot_of i day period) isnt (sym (div-add-mod' n i.periods) ∙ ap₂ (λ a b. a * i.periods + b) (eqb-true (day_of i n) day parts.0) (eqb-true (period_of i n) period parts.1))))
    (λ b. sym b)))

-- the marks of one slot
pub slot_marked : (i : Problem) (day period n : ℕ) (was now : Bool) → day < i.days → period < i.periods → now ≡ (n == slot_of i day period || was)
    → now ≡ (was || (nat_lt n (slot_count i) && (day_of i n == day && period_of i n == period)))
slot_marked i day period n was now d p e = rw (e, is_slot i day period n d p) (by was (nat_lt n (slot_count i) && (day_of i n == day && period_of i n == period)))
  where
    by : (o s : Bool) → (s || o) ≡ (o || s)
    by true true = refl
    by true false = refl
    by false true = refl
    by false false = refl

-- each slot in range has a day below the number of days
pub on_day : (i : Problem) (k n : ℕ) (b : Bool) → i.days ≤ k → (nat_lt n (slot_count i) && (nat_lt (day_of i n) k && b)) ≡ (nat_lt n (slot_count i) && b)
on_day i k n b le = bool_case _ (nat_lt n (slot_count i))
    (λ is.
    let within : n < slot_count i = ltb-true n (slot_count i) is in
    let some : 0 < i.periods = some_columns i.days i.periods n within in
    let below : n / i.periods < k = omega (arith, le, div_below n i.periods i.days some within) in
    rw (is, lt-ltb (n / i.periods) k below) refl)
    (λ isnt. rw isnt refl)

-- one number more
more_below : (p k : ℕ) → nat_lt p (k + 1) ≡ (nat_lt p k || p == k)
more_below p k = grind (arith, nat_tests)

-- the marks of one more period of a day
pub period_more : (i : Problem) (day k n : ℕ) (was before now : Bool) → day < i.days → k < i.periods
    → before ≡ (was || (nat_lt n (slot_count i) && (day_of i n == day && nat_lt (period_of i n) k)))
    → now ≡ (n == slot_of i day k || before)
    → now ≡ (was || (nat_lt n (slot_count i) && (day_of i n == day && nat_lt (period_of i n) (k + 1))))
period_more i day k n was before now d p h e =
    rw (e, h, is_slot i day k n d p, more_below (period_of i n) k) (by was (nat_lt n (slot_count i)) (day_of i n == day) (nat_lt (period_of i n) k) (period_of i n == k))
  where
    by : (o l d a b : Bool) → ((l && (d && b)) || (o || (l && (d && a)))) ≡ (o || (l && (d && (a || b))))
    by true true true a true = refl
    by true true true a false = refl
    by true true false a b = refl
    by true false d a b = refl
    by false true true true true = refl
    by false true true true false = refl
    by false true true false true = refl
    by false true true false false = refl
    by false true false a b = refl
    by false false d a b = refl

-- the same marks, told by another test
adds_same : (old new : BitTable) (test other : ℕ → ℕ → Bool) → AddsMarks old new test → ((r n : ℕ) → test r n ≡ other r n) → AddsMarks old new other
adds_same old new test other h same = record { size = h.size; marks = λ r n. h.marks r n ∙ ap (λ b. is_marked_in old r n || b) (same r n) }

-- marks in the rows of a teacher's courses
pub adds_taught : (i : Problem) (old new : BitTable) (teacher k : ℕ) (marks : ℕ → Bool) → length (courses_taught_by i teacher) ≤ k
    → AddsMarks old new (λ r n. has r (take k (courses_taught_by i teacher)) && marks n) → AddsMarks old new (λ r n. (nat_lt r (course_count i) && (course_of i r).teacher == teacher) && marks n)
adds_taught i old new teacher k marks all h = adds_same old new _ _ h (λ r n. ap (λ b. b && marks n)
    (ap (has r) (take_all k (courses_taught_by i teacher) all) ∙ has_below (λ c. (course_of i c).teacher == teacher) (course_count i) r))

-- a table with more marks: its length, and the mark in each row and column
pub with_marks_length : (width : ℕ) (row column : ℕ → Bool) (table : List Bool) → length (with_marks width row column table) ≡ length table
unfolding with_marks
with_marks_length width row column table = length-map-range_with_len (λ k. get_or table k false || (row (k / width) && column (k % width))) 0 (length table)

pub with_marks_at : (width : ℕ) (row column : ℕ → Bool) (table : List Bool) (r c : ℕ) → c < width → r * width + c < length table
    → get_or (with_marks width row column table) (r * width + c) false ≡ (get_or table (r * width + c) false || (row r && column c))
unfolding with_marks
with_marks_at width row column table r c lt within =
    get_or-map-range_with_len (λ k. get_or table k false || (row (k / width) && column (k % width))) 0 (length table) (r * width + c) (r * width + c) false within (zero-add (r * width + c))
    ∙ ap₂ (λ a b. get_or table (r * width + c) false || (row a && column b)) (div-mul-add r width c lt) (mod-mul-add r width c lt)

-- the table of rows of bits, after marks were added
marks_added : (old new : BitTable) (rows width : ℕ) (row column : ℕ → Bool) → HasSize old rows width → AddsMarks old new (λ r n. (nat_lt r rows && row r) && (nat_lt n width && column n))
    → marks_of new ≡ with_marks width row column (marks_of old)
marks_added old new rows width row column size adds = ext_get_or false (marks_of new) (with_marks width row column (marks_of old))
    (new_length ∙ sym (with_marks_length width row column (marks_of old) ∙ old_length))
    (λ k lt.
    let at : Row rows width k = row_of rows width k (subst (λ n. k < n) new_length lt) in
    subst (λ n. get_or (marks_of new) n false ≡ get_or (with_marks width row column (marks_of old)) n false) at.place (same at.row at.column at.row_below at.column_below))
  where
    old_length : length (marks_of old) ≡ rows * width
    old_length = marks_length old ∙ ap₂ (λ a b. a * b) size.0 size.1

    new_length : length (marks_of new) ≡ rows * width
    new_length = marks_length new ∙ ap₂ (λ a b. a * b) (adds.size.0 ∙ size.0) (adds.size.1 ∙ size.1)

    looked_up : (g : BitTable) → HasSize g rows width → (r n : ℕ) → r < rows → n < width → get_or (marks_of g) (r * width + n) false ≡ is_marked_in g r n
    looked_up g is r n less lt = subst (λ w. get_or (marks_of g) (r * w + n) false ≡ is_marked_in g r n) is.1 (mark_at g r n (subst (λ m. r < m) (sym is.0) less) (subst (λ m. n < m) (sym is.1) lt))

    same : (r n : ℕ) → r < rows → n < width → get_or (marks_of new) (r * width + n) false ≡ get_or (with_marks width row column (marks_of old)) (r * width + n) false
    same r n less lt =
        looked_up new (adds.size.0 ∙ size.0, adds.size.1 ∙ size.1) r n less lt
        ∙ adds.marks r n
        ∙ ap₂ (λ a b. is_marked_in old r n || ((a && row r) && (b && column n))) (lt-ltb r rows less) (lt-ltb n width lt)
        ∙ ap (λ b. b || (row r && column n)) (sym (looked_up old size r n less lt))
        ∙ sym (with_marks_at width row column (marks_of old) r n lt (subst (λ m. r * width + n < m) (sym old_length) (place_within r n width rows less lt)))

-- what an entry closes is marked in addition
pub closed_by : (i : Problem) (old new : Tables) (e : Closing) → AreTablesOf i old
    → AddsMarks old.closed new.closed (λ c s. (nat_lt c (course_count i) && is_of_course i e.kind e.number c) && (nat_lt s (slot_count i) && covers_slot i e s))
    → AddsMarks old.blocked new.blocked (λ r s. (nat_lt r (room_count i) && is_of_room e.kind e.number r) && (nat_lt s (slot_count i) && covers_slot i e s))
    → closures_in new ≡ with_closing i (closures_in old) e
closed_by i old new e are closed blocked = ap₂ (λ a b. record { closed = a; blocked = b })
    (marks_added old.closed new.closed (course_count i) (slot_count i) (is_of_course i e.kind e.number) (covers_slot i e) are.closed closed)
    (marks_added old.blocked new.blocked (room_count i) (slot_count i) (is_of_room e.kind e.number) (covers_slot i e) are.blocked blocked)
