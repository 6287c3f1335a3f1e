-- The written form of a timetable.
use Rattle.std.proofs.Common.{◌≡◌, ℕ, zero, suc, ◌+◌, ◌*◌, ◌^◌, ◌<◌, ◌≤◌, List, [], ◌∷◌, ◌++◌, length, map, flat_map, Bool, true, false, cond, not, ◌&&◌, ◌||◌, ◌==◌, refl, sym, ap, subst, ◌∙◌, arith, rules, append_assoc, true≢false}
use Rattle.std.specs.Prelude.{codes, fold, slice_index_or}
use Rattle.std.specs.List.{list_any, list_all, position_or_len, AllByRecursion as Each}
use Rattle.std.specs.Str.{bytes_eq}
use Rattle.std.specs.Fmt.{decimal}
use Rattle.std.proofs.lemmas.List.{length-append}
use Rattle.std.proofs.lemmas.Nat.{div-add-mod', div_below, mod_below}
use Rattle.std.proofs.lemmas.Fmt.{digits_decimal, digits_value-decimal, decimal_nonempty}
use Rattle.std.proofs.lemmas.Bool.{lt-ltb, le-leb, and_parts, or_left, or_right}
use Rattle.std.proofs.lemmas.Bool.Decides.{nat_tests}
use Rattle.std.proofs.lemmas.Str.Parse.{IsNumeralModel, numerals_by_fold}
use Rattle.ctt_problem.specs.declared.placed.Placed.{Placed}
use Rattle.ctt_text.specs.Numbers.{is_digit, with_digit, value}
use Rattle.ctt_text.specs.Words.{words, grow}
use Rattle.ctt_problem.specs.Named.{is_blank, IsWord, IsNamed, AreNew, AreDistinct}
use Rattle.ctt_problem.specs.Problem.{Problem, IsProblem, is_among, place_of, day_of, period_of}
use Rattle.ctt_problem.specs.Timetable.{Fits, before, Ascending}
use Rattle.ctt_text.specs.InstanceText.{IsNumber}
use Rattle.ctt_text.specs.SolutionText.{EntryWords, spelled_entry, IsEntry, lecture_of, AreApart, SolSpells}
use Rattle.ctt_text.specs.Written.{words_of, line_of, soltext}
use Rattle.ctt_text.specs.SolutionLaws.{WrittenSpells}
use Rattle.ctt_problem.proofs.ListLaws.{place_new, same_bytes}
use Rattle.ctt_problem.proofs.MarkLaws.{some_columns}
use Rattle.ctt_problem.proofs.TimetableLemmas.{Each-at, Each-map}
use Rattle.ctt_problem.proofs.LectureLaws.{placed_same, before_apart_turned}
use Rattle.ctt_text.proofs.SolutionLaws.{spells_one_timetable}

-- numbers in decimal
digits_model : IsNumeralModel (λ ds. list_all is_digit ds ≡ true) (λ ds. fold with_digit 0 ds)
digits_model = numerals_by_fold (λ ds. list_all is_digit ds ≡ true) (search rules) (λ n ds. fold with_digit n ds) (search rules)

pub decimal_digits : (n : ℕ) → n < 2 ^ 64 → list_all is_digit (decimal n) ≡ true
decimal_digits n h = digits_decimal digits_model n h

pub decimal_value : (n : ℕ) → n < 2 ^ 64 → value (decimal n) ≡ n
decimal_value n h = digits_value-decimal digits_model n h

pub decimal_number : (n : ℕ) → n ≤ 999999999 → IsNumber (decimal n)
decimal_number n h =
    let small : n < 2 ^ 64 = omega arith in
    rw (lt-ltb 0 (length (decimal n)) (decimal_nonempty n small), decimal_digits n small) (le-leb (value (decimal n)) 999999999 (subst (λ m. m ≤ 999999999) (sym (decimal_value n small)) h))

digit_not_blank : (b : ℕ) → is_digit b ≡ true → is_blank b ≡ false
unfolding is_blank
digit_not_blank b h = grind (arith, nat_tests)

pub digits_not_blank : (ds : List ℕ) → list_all is_digit ds ≡ true → Each (λ b. is_blank b ≡ false) ds
digits_not_blank [] h = tt
digits_not_blank (b ∷ bs) h =
    let parts = and_parts (is_digit b) (list_all is_digit bs) h in
    (digit_not_blank b parts.0, digits_not_blank bs parts.1)

pub decimal_word : (n : ℕ) → n < 2 ^ 64 → IsWord (decimal n)
decimal_word n h = (decimal_nonempty n h, digits_not_blank (decimal n) (decimal_digits n h))

-- names and their indices
none_before : (p : List ℕ → Bool) (xs : List (List ℕ)) → list_any p xs ≡ false → position_or_len p xs ≡ length xs
none_before p [] h = refl
none_before p (x ∷ xs) h = by (p x) h (none_before p xs)
  where
    by : (b : Bool) → (b || list_any p xs) ≡ false → (list_any p xs ≡ false → position_or_len p xs ≡ length xs) → cond (not b) (1 + position_or_len p xs) 0 ≡ suc (length xs)
    by true h rest = absurd (true≢false h)
    by false h rest = ap (λ n. 1 + n) (rest h) ∙ omega arith

place_named : (before names : List (List ℕ)) (n : ℕ) → AreNew before names → n < length names → place_of (before ++ names) (slice_index_or names n []) ≡ length before + n
place_named before [] n new lt = absurd (omega (arith, lt))
place_named before (x ∷ xs) zero new lt = place_new (bytes_eq x) before x xs new.0 (same_bytes x) ∙ none_before (bytes_eq x) before new.0 ∙ omega arith
place_named before (x ∷ xs) (suc n) new lt =
    ap (λ ns. place_of ns (slice_index_or xs n [])) (sym (append_assoc before (x ∷ []) xs))
    ∙ place_named (before ++ x ∷ []) xs n new.1 (omega (arith, lt))
    ∙ omega (arith, length-append before (x ∷ []))

pub place_at : (names : List (List ℕ)) (n : ℕ) → AreDistinct names → n < length names → place_of names (slice_index_or names n []) ≡ n
place_at names n new lt = place_named [] names n new lt ∙ omega arith

pub among_at : (names : List (List ℕ)) (n : ℕ) → n < length names → is_among names (slice_index_or names n []) ≡ true
among_at [] n lt = absurd (omega (arith, lt))
among_at (x ∷ xs) zero lt = or_left (bytes_eq x x) (is_among xs x) (same_bytes x)
among_at (x ∷ xs) (suc n) lt = or_right (bytes_eq (slice_index_or xs n []) x) (is_among xs (slice_index_or xs n [])) (among_at xs n (omega (arith, lt)))

-- lectures that ascend are apart
apart_from_ascending : (t : List Placed) → Ascending t → AreApart t
apart_from_ascending [] up = tt
apart_from_ascending (l ∷ t) up = (Each-map (λ m. before l m ≡ true) (λ m. (l.course == m.course && l.slot == m.slot) ≡ false) (λ m h. before_apart_turned l m h) t up.0, apart_from_ascending t up.1)

-- a word with a blank after it
pub word_first : (w : List ℕ) (c : ℕ) (rest : List ℕ) → IsWord w → is_blank c ≡ true → words (w ++ c ∷ rest) ≡ w ∷ words rest
unfolding words
word_first [] c rest is blank = absurd (omega (arith, is.0))
word_first (b ∷ []) c rest is blank = rw (is.1.0, blank) refl
word_first (b ∷ d ∷ bs) c rest is blank =
    let more : words (d ∷ bs ++ c ∷ rest) ≡ (d ∷ bs) ∷ words rest = word_first (d ∷ bs) c rest (omega arith, is.1.1) blank in
    not_blank (is_blank b) _ _ is.1.0 ∙ ap (λ ws. grow b (not (is_blank d)) ws) more ∙ ap (λ q. grow b (not q) ((d ∷ bs) ∷ words rest)) is.1.1.0
  where
    not_blank : (x : Bool) (us vs : List (List ℕ)) → x ≡ false → cond x us vs ≡ vs
    not_blank true us vs h = absurd (true≢false h)
    not_blank false us vs h = refl

word_then : (w : List ℕ) (c : ℕ) (tail rest : List ℕ) → IsWord w → is_blank c ≡ true → words ((w ++ c ∷ tail) ++ rest) ≡ w ∷ words (tail ++ rest)
word_then w c tail rest is blank = ap (λ bs. words bs) (append_assoc w (c ∷ tail) rest) ∙ word_first w c (tail ++ rest) is blank

pub space_blank : is_blank 32 ≡ true
unfolding is_blank
space_blank = refl

pub line_end_blank : is_blank 10 ≡ true
unfolding is_blank
line_end_blank = refl

-- a line is its four words
line_words : (w : EntryWords) (rest : List ℕ) → IsWord w.course → IsWord w.room → IsWord w.day → IsWord w.period → words (line_of w ++ rest) ≡ spelled_entry w ++ words rest
line_words w rest course room day period =
    word_then w.course 32 (w.room ++ (codes " " ++ (w.day ++ (codes " " ++ (w.period ++ codes "\n"))))) rest course space_blank
    ∙ ap (λ x. w.course ∷ x) (word_then w.room 32 (w.day ++ (codes " " ++ (w.period ++ codes "\n"))) rest room space_blank)
    ∙ ap (λ x. w.course ∷ w.room ∷ x) (word_then w.day 32 (w.period ++ codes "\n") rest day space_blank)
    ∙ ap (λ x. w.course ∷ w.room ∷ w.day ∷ x) (word_then w.period 10 [] rest period line_end_blank)

module _ (i : Problem) (is : IsProblem i) (named : IsNamed i) where
  -- the day and the period of a slot
  pub record IsSplit (s : ℕ) : Type 0 where
    pub day : day_of i s < i.days
    pub period : period_of i s < i.periods
    pub small_day : day_of i s ≤ 999999999
    pub small_period : period_of i s ≤ 999999999

  pub split : (s : ℕ) → s < i.days * i.periods → IsSplit s
  split s lt =
      let some : 0 < i.periods = some_columns i.days i.periods s lt in
      let day : day_of i s < i.days = div_below s i.periods i.days some lt in
      let period : period_of i s < i.periods = mod_below s i.periods some in
      record { day = day; period = period; small_day = omega (arith, is.days_few); small_period = omega (arith, is.periods_few) }

  pub course_below : (l : Placed) → Fits i l → l.course < length i.course_names
  course_below l fits = subst (λ n. l.course < n) (sym is.courses_named) fits.0

  pub room_below : (l : Placed) → Fits i l → l.room < length i.room_names
  room_below l fits = subst (λ n. l.room < n) (sym is.rooms_named) fits.2

  -- the words of a lecture are an entry
  entry_of : (l : Placed) → Fits i l → IsEntry i (words_of i l)
  entry_of l fits =
      let s = split l.slot fits.1 in (
        among_at i.course_names l.course (course_below l fits),
        among_at i.room_names l.room (room_below l fits),
        (decimal_number (day_of i l.slot) s.small_day, subst (λ n. n < i.days) (sym (decimal_value (day_of i l.slot) (omega (arith, s.small_day)))) s.day),
        (decimal_number (period_of i l.slot) s.small_period, subst (λ n. n < i.periods) (sym (decimal_value (period_of i l.slot) (omega (arith, s.small_period)))) s.period),
      )

  -- this entry describes the lecture
  lecture_again : (l : Placed) → Fits i l → lecture_of i (words_of i l) ≡ l
  lecture_again l fits =
      let s = split l.slot fits.1 in
      let day : value (decimal (day_of i l.slot)) ≡ day_of i l.slot = decimal_value (day_of i l.slot) (omega (arith, s.small_day)) in
      let period : value (decimal (period_of i l.slot)) ≡ period_of i l.slot = decimal_value (period_of i l.slot) (omega (arith, s.small_period)) in
      placed_same (place_of i.course_names (slice_index_or i.course_names l.course [])) l.course (value (decimal (day_of i l.slot)) * i.periods + value (decimal (period_of i l.slot))) l.slot
      (place_of i.room_names (slice_index_or i.room_names l.room [])) l.room
      (place_at i.course_names l.course named.courses.0 (course_below l fits))
      (ap (λ d. d * i.periods + value (decimal (period_of i l.slot))) day ∙ ap (λ p. day_of i l.slot * i.periods + p) period ∙ div-add-mod' l.slot i.periods)
      (place_at i.room_names l.room named.rooms.0 (room_below l fits))

  lectures_again : (t : List Placed) → Each (Fits i) t → map (lecture_of i) (map (words_of i) t) ≡ t
  lectures_again [] each = refl
  lectures_again (l ∷ t) each = ap (λ x. x ∷ map (lecture_of i) (map (words_of i) t)) (lecture_again l each.0) ∙ ap (λ x. l ∷ x) (lectures_again t each.1)

  entries_of : (t : List Placed) → Each (Fits i) t → Each (IsEntry i) (map (words_of i) t)
  entries_of [] each = tt
  entries_of (l ∷ t) each = (entry_of l each.0, entries_of t each.1)

  -- the words of the text are those of its lectures
  text_words : (t : List Placed) → Each (Fits i) t → words (soltext i t) ≡ flat_map spelled_entry (map (words_of i) t)
  unfolding words
  text_words [] each = refl
  text_words (l ∷ t) each =
      let s = split l.slot each.0.1 in
      line_words (words_of i l) (soltext i t)
      (Each-at IsWord i.course_names named.courses.1 l.course [] (course_below l each.0))
      (Each-at IsWord i.room_names named.rooms.1 l.room [] (room_below l each.0))
      (decimal_word (day_of i l.slot) (omega (arith, s.small_day)))
      (decimal_word (period_of i l.slot) (omega (arith, s.small_period)))
      ∙ ap (λ x. spelled_entry (words_of i l) ++ x) (text_words t each.1)

pub written_spells : WrittenSpells
written_spells i t is named table =
    let again = lectures_again i is named t table.fits in
    let spells : SolSpells i (words (soltext i t)) t = record {
      given = map (words_of i) t;
      all = text_words i is named t table.fits;
      entries = entries_of i is named t table.fits;
      apart = subst AreApart (sym again) (apart_from_ascending t table.ascending);
      ascending = table.ascending;
      same = λ p. ap (λ x. list_any p x) (sym again);
    } in
    (spells, λ u other. spells_one_timetable i (words (soltext i t)) u t other spells)
