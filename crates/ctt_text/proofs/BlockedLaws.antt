-- The laws of the texts of closures.
use Rattle.std.proofs.Common.{◌≡◌, ◌⊎◌, inl, inr, ℕ, ◌+◌, ◌*◌, ◌<◌, List, [], ◌∷◌, ◌++◌, length, Bool, true, false, cond, ◌&&◌, ◌||◌, ◌==◌, Option, Some, None, Ok, Err, refl, sym, ap, ap₂, subst, ◌∙◌}
use Rattle.std.specs.Prelude.{codes, fold, get_or, replicate}
use Rattle.std.specs.List.{list_any, AllByRecursion as Each}
use Rattle.std.specs.Str.{bytes_eq}
use Rattle.std.proofs.lemmas.Bool.{lt-ltb}
use Rattle.std.proofs.lemmas.List.{get_or-replicate, length-replicate, ext_get_or}
use Rattle.ctt_text.specs.declared.fault.BlockedFault.{BlockedFault}
use Rattle.ctt_text.specs.declared.fault.BlockedFault.TheVariants.{Expected, BadNumber, TooLarge, UnknownName, DayOut, PeriodOut}
use Rattle.ctt_text.specs.declared.instance.closing.Kind.{Kind}
use Rattle.ctt_text.specs.declared.instance.closing.Kind.TheVariants.{Room, Teacher, Course}
use Rattle.ctt_text.specs.declared.instance.closing.Closing.{Closing}
use Rattle.ctt_text.specs.Numbers.{is_number, value, number_of}
use Rattle.ctt_text.specs.Forms.{◌>>=◌, Fills}
use Rattle.ctt_text.specs.Places.{one, known, known_name, is_all, broken_unless, meant, choice_if}
use Rattle.ctt_problem.specs.Problem.{Problem, course_of, course_count, room_count, slot_count, day_of, period_of, is_among, place_of, is_closed, is_blocked}
use Rattle.ctt_text.specs.InstanceText.{IsUpTo}
use Rattle.ctt_text.specs.BlockedPlaces.{Closures, kind_of, names_of, closing, is_chosen, covers_slot, is_of_course, is_of_room, with_marks, with_closing, blocked_entry, none_closed, closures, ends_early}
use Rattle.ctt_text.specs.BlockedText.{BlockedWords, spelled_blocked, spelled_closures, IsOf, IsAllOrBelow, IsBlockedEntry, says, covers, closes, blocks, BlockSpells, BlockBreaksAt}
use Rattle.ctt_text.specs.BlockedLaws.{blocked_answer, ReadsBlocked, SpellsOneBlocked, BlockedFailsWhereBroken, BlockedBreaksOnce, BlockedSpellsOrBreaks}
use Rattle.ctt_problem.proofs.ListLaws.{bytes_sound}
use Rattle.ctt_problem.proofs.ResultLemmas.{ok_same, ok_is_err}
use Rattle.ctt_problem.proofs.MarkLaws.{Row, row_of}
use Rattle.ctt_problem.proofs.TableLemmas.{place_within}
use Rattle.ctt_text.proofs.FormLaws.{answer_fills, fills_answer, answer_breaks, breaks_answer, breaks_once, answered}
use Rattle.ctt_text.proofs.SectionLaws.{Entry}
use Rattle.ctt_text.proofs.SideFileLaws.{Given, side_file_fills, side_file_taken}
use Rattle.ctt_text.proofs.PlaceLaws.{a_name, name_given, choice_passes, passed_choice}
use Rattle.ctt_text.proofs.ClosingLemmas.{with_marks_length, with_marks_at}

-- the words of each kind
abbrev kind_word : Kind → List ℕ
kind_word Room = codes "room"
kind_word Teacher = codes "teacher"
kind_word Course = codes "course"

-- a word states the kind whose word it is, and no other
word_kind : (kind : Kind) → kind_of (kind_word kind) ≡ Some kind
word_kind Room = refl
word_kind Teacher = refl
word_kind Course = refl

kind_obeyed : (word : List ℕ) → broken_unless Expected (kind_of word) ≡ None → (kind : Kind) × (word ≡ kind_word kind)
kind_obeyed word h = by (bytes_eq word (codes "room")) (bytes_eq word (codes "teacher")) (bytes_eq word (codes "course")) refl refl refl h
  where
    by : (a b c : Bool) → bytes_eq word (codes "room") ≡ a → bytes_eq word (codes "teacher") ≡ b → bytes_eq word (codes "course") ≡ c
        → broken_unless Expected (cond {A = Option Kind} a (Some Room) (cond b (Some Teacher) (cond c (Some Course) None))) ≡ None → (kind : Kind) × (word ≡ kind_word kind)
    by true b c room teacher course h = (Room, bytes_sound word (codes "room") room)
    by false true c room teacher course h = (Teacher, bytes_sound word (codes "teacher") teacher)
    by false false true room teacher course h = (Course, bytes_sound word (codes "course") course)
    by false false false room teacher course h = cc

-- `*`, or a number below a limit, is the number chosen exactly if it says so
chosen_says : (limit n : ℕ) (word : List ℕ) → IsAllOrBelow limit word → is_chosen (number_of word) n ≡ says word n
chosen_says limit n word (inl all) = rw all refl
chosen_says limit n word (inr below) = rw below.0 (ap (λ b. b || n == value word) (sym (by (is_all word) refl)))
  where
    by : (b : Bool) → is_all word ≡ b → is_all word ≡ false
    by true is = absurd (starred (bytes_sound word (codes "*") is))
      where
        starred : word ≡ codes "*" → ⊥
        starred e = (let number : is_number (codes "*") ≡ true = subst (λ w. is_number w ≡ true) e below.0 in cc)
    by false isnt = isnt

-- the words of entries, and the marks that they make
module _ {W : Type 0} (width : ℕ) (row column : W → ℕ → Bool) where
  abbrev add_marks : List Bool → W → List Bool
  add_marks t w = with_marks width (row w) (column w) t

  fold_length : (given : List W) (t : List Bool) → length (fold add_marks t given) ≡ length t
  fold_length [] t = refl
  fold_length (w ∷ given) t = fold_length given (add_marks t w) ∙ with_marks_length width (row w) (column w) t

  or_or : (a b c : Bool) → ((a || b) || c) ≡ (a || (b || c))
  or_or true b c = refl
  or_or false b c = refl

  or_false : (b : Bool) → b ≡ (b || false)
  or_false true = refl
  or_false false = refl

  fold_at : (given : List W) (t : List Bool) (r c : ℕ) → c < width → r * width + c < length t
      → get_or (fold add_marks t given) (r * width + c) false ≡ (get_or t (r * width + c) false || list_any (λ w. row w r && column w c) given)
  fold_at [] t r c lt within = or_false (get_or t (r * width + c) false)
  fold_at (w ∷ given) t r c lt within =
      fold_at given (add_marks t w) r c lt (subst (λ n. r * width + c < n) (sym (with_marks_length width (row w) (column w) t)) within)
      ∙ ap (λ b. b || list_any (λ w. row w r && column w c) given) (with_marks_at width (row w) (column w) t r c lt within)
      ∙ or_or (get_or t (r * width + c) false) (row w r && column w c) (list_any (λ w. row w r && column w c) given)

  module _ (rows : ℕ) (given : List W) where
    abbrev made : List Bool
    made = fold add_marks (replicate (rows * width) false) given

    made_length : length made ≡ rows * width
    made_length = fold_length given (replicate (rows * width) false) ∙ length-replicate (rows * width) false

    made_at : (r c : ℕ) → r < rows → c < width → get_or made (r * width + c) false ≡ list_any (λ w. row w r && column w c) given
    made_at r c less lt =
        let within : r * width + c < rows * width = place_within r c width rows less lt in
        fold_at given (replicate (rows * width) false) r c lt (subst (λ n. r * width + c < n) (sym (length-replicate (rows * width) false)) within)
        ∙ ap (λ b. b || list_any (λ w. row w r && column w c) given) (get_or-replicate (rows * width) (r * width + c) false false within)

    -- a table of the same length with the same marks is equal
    made_same : (table : List Bool) → length table ≡ rows * width → ((r c : ℕ) → r < rows → c < width → get_or table (r * width + c) false ≡ list_any (λ w. row w r && column w c) given) → made ≡ table
    made_same table len at = ext_get_or false made table (made_length ∙ sym len) (λ k lt.
        let place : Row rows width k = row_of rows width k (subst (λ n. k < n) made_length lt) in
        subst (λ n. get_or made n false ≡ get_or table n false) place.place (made_at place.row place.column place.row_below place.column_below ∙ sym (at place.row place.column place.row_below place.column_below)))

module _ (i : Problem) where
  -- the entry of these words
  abbrev kind_in : BlockedWords → Kind
  kind_in w = meant Room (kind_of w.kind)

  abbrev number_in_it : BlockedWords → ℕ
  number_in_it w = place_of (names_of i (kind_in w)) w.name

  abbrev closing_of : BlockedWords → Closing
  closing_of w = record { kind = kind_in w; number = number_in_it w; day = number_of w.day; period = number_of w.period }

  abbrev add_entry : Closures → BlockedWords → Closures
  add_entry s w = with_closing i s (closing_of w)

  -- the kind and the name of an entry
  record Named (w : BlockedWords) : Type 0 where
    kind : Kind
    word : w.kind ≡ kind_word kind
    known : is_among (names_of i kind) w.name ≡ true

  named_as : (w : BlockedWords) → IsBlockedEntry i w → Named w
  named_as w is = by is.named
    where
      by : IsOf (codes "room") i.room_names w ⊎ (IsOf (codes "teacher") i.teacher_names w ⊎ IsOf (codes "course") i.course_names w) → Named w
      by (inl room) = record { kind = Room; word = room.0; known = room.1 }
      by (inr (inl teacher)) = record { kind = Teacher; word = teacher.0; known = teacher.1 }
      by (inr (inr course)) = record { kind = Course; word = course.0; known = course.1 }

  is_named : (w : BlockedWords) (kind : Kind) → w.kind ≡ kind_word kind → is_among (names_of i kind) w.name ≡ true → IsOf (codes "room") i.room_names w ⊎ (IsOf (codes "teacher") i.teacher_names w ⊎ IsOf (codes "course") i.course_names w)
  is_named w Room word known = inl (word, known)
  is_named w Teacher word known = inr (inl (word, known))
  is_named w Course word known = inr (inr (word, known))

  -- an entry fills its form
  entry_fills : (s : Closures) (w : BlockedWords) → IsBlockedEntry i w → Fills (blocked_entry i s) (spelled_blocked w) (add_entry s w)
  unfolding blocked_entry closing choice_if known_name known one ◌>>=◌
  entry_fills s w is =
      let n = named_as w is in
      let stated : kind_of w.kind ≡ Some n.kind = ap kind_of n.word ∙ word_kind n.kind in (
        rw stated refl,
        (
          rw (stated, n.known) refl,
          (
            choice_passes BadNumber DayOut i.days w.day is.day,
            (choice_passes BadNumber PeriodOut i.periods w.period is.period, rw (stated, n.known) refl),
          ),
        ),
      )

  -- what fills it is an entry
  entry_taken : (s : Closures) (words : List (List ℕ)) (t : Closures) → Fills (blocked_entry i s) words t → Entry spelled_blocked add_entry (λ _. IsBlockedEntry i) s words t
  unfolding blocked_entry closing choice_if known_name known one ◌>>=◌
  entry_taken s [] t h = absurd h
  entry_taken s (k ∷ []) t h = absurd h.1
  entry_taken s (k ∷ n ∷ []) t h = absurd h.1.1
  entry_taken s (k ∷ n ∷ d ∷ []) t h = absurd h.1.1.1
  entry_taken s (k ∷ n ∷ d ∷ p ∷ []) t h =
      let kind = kind_obeyed k h.0 in
      let stated : kind_of k ≡ Some kind.0 = ap kind_of kind.1 ∙ word_kind kind.0 in
      let w : BlockedWords = record { kind = k; name = n; day = d; period = p } in
      record {
        given = w;
        all = refl;
        fit = record {
          named = is_named w kind.0 kind.1 (subst (λ o. is_among (names_of i (meant Room o)) n ≡ true) stated (a_name UnknownName n (names_of i (meant Room (kind_of k))) h.1.0));
          day = passed_choice BadNumber DayOut i.days d h.1.1.0;
          period = passed_choice BadNumber PeriodOut i.periods p h.1.1.1.0;
        };
        gives = rw (name_given UnknownName n (names_of i (meant Room (kind_of k))) h.1.0) at h.1.1.1.1;
      }
  entry_taken s (k ∷ n ∷ d ∷ p ∷ more ∷ words) t h = absurd h.1.1.1.1

  -- what the entries make
  abbrev made_of : List BlockedWords → Closures
  made_of given = fold add_entry (none_closed i) given

  -- the courses and the rooms of an entry, and its slots
  abbrev of_course : BlockedWords → ℕ → Bool
  of_course w c = is_of_course i (kind_in w) (number_in_it w) c

  abbrev of_room : BlockedWords → ℕ → Bool
  of_room w r = is_of_room (kind_in w) (number_in_it w) r

  abbrev in_slot : BlockedWords → ℕ → Bool
  in_slot w s = covers_slot i (closing_of w) s

  closed_made : (given : List BlockedWords) (s : Closures) → (fold add_entry s given).closed ≡ fold (add_marks (slot_count i) of_course in_slot) s.closed given
  closed_made [] s = refl
  closed_made (w ∷ given) s = closed_made given (add_entry s w)

  blocked_made : (given : List BlockedWords) (s : Closures) → (fold add_entry s given).blocked ≡ fold (add_marks (slot_count i) of_room in_slot) s.blocked given
  blocked_made [] s = refl
  blocked_made (w ∷ given) s = blocked_made given (add_entry s w)

  -- an entry is about the courses, rooms and slots that its words name
  slot_covered : (s : ℕ) (w : BlockedWords) → IsBlockedEntry i w → in_slot w s ≡ covers i s w
  slot_covered s w is = ap₂ (λ a b. a && b) (chosen_says i.days (day_of i s) w.day is.day) (chosen_says i.periods (period_of i s) w.period is.period)

  course_closed : (c s : ℕ) (w : BlockedWords) → IsBlockedEntry i w → (of_course w c && in_slot w s) ≡ closes i c s w
  course_closed c s w is = rw (slot_covered s w is) (by (covers i s w) (named_as w is))
    where
      by : (b : Bool) → Named w → (of_course w c && b) ≡ (((bytes_eq w.kind (codes "course") && c == place_of i.course_names w.name) || (bytes_eq w.kind (codes "teacher") && (course_of i c).teacher == place_of i.teacher_names w.name)) && b)
      by b n = kinds b n.kind n.word
        where
          or_none : (a : Bool) → a ≡ (a || false)
          or_none true = refl
          or_none false = refl

          kinds : (b : Bool) (kind : Kind) → w.kind ≡ kind_word kind → (of_course w c && b) ≡ (((bytes_eq w.kind (codes "course") && c == place_of i.course_names w.name) || (bytes_eq w.kind (codes "teacher") && (course_of i c).teacher == place_of i.teacher_names w.name)) && b)
          kinds b Room e = rw e refl
          kinds b Teacher e = rw e refl
          kinds b Course e = rw e (ap (λ a. a && b) (or_none (c == place_of i.course_names w.name)))

  room_blocked : (r s : ℕ) (w : BlockedWords) → IsBlockedEntry i w → (of_room w r && in_slot w s) ≡ blocks i r s w
  room_blocked r s w is = rw (slot_covered s w is) (by (covers i s w) (named_as w is))
    where
      by : (b : Bool) → Named w → (of_room w r && b) ≡ ((bytes_eq w.kind (codes "room") && r == place_of i.room_names w.name) && b)
      by b n = kinds b n.kind n.word
        where
          kinds : (b : Bool) (kind : Kind) → w.kind ≡ kind_word kind → (of_room w r && b) ≡ ((bytes_eq w.kind (codes "room") && r == place_of i.room_names w.name) && b)
          kinds b Room e = rw e refl
          kinds b Teacher e = rw e refl
          kinds b Course e = rw e refl

  any_same : (test other : BlockedWords → Bool) → ((w : BlockedWords) → IsBlockedEntry i w → test w ≡ other w) → (given : List BlockedWords) → Each (IsBlockedEntry i) given → list_any test given ≡ list_any other given
  any_same test other same [] each = refl
  any_same test other same (w ∷ given) each = ap₂ (λ a b. a || b) (same w each.0) (any_same test other same given each.1)

  -- slots in range are looked up in the tables
  looked_up : (table : List Bool) (c s : ℕ) → s < slot_count i → is_closed (record i { closed = table }) c s ≡ get_or table (c * slot_count i + s) false
  looked_up table c s lt = rw (lt-ltb s (slot_count i) lt) refl

  looked_up_room : (table : List Bool) (r s : ℕ) → s < slot_count i → is_blocked (record i { blocked = table }) r s ≡ get_or table (r * slot_count i + s) false
  looked_up_room table r s lt = rw (lt-ltb s (slot_count i) lt) refl

  module _ (given : List BlockedWords) (each : Each (IsBlockedEntry i) given) where
    abbrev made_closed : List Bool
    made_closed = made (slot_count i) of_course in_slot (course_count i) given

    abbrev made_blocked : List Bool
    made_blocked = made (slot_count i) of_room in_slot (room_count i) given

    -- the tables tell for each course, room and slot whether an entry is about them
    closed_says : (c s : ℕ) → c < course_count i → s < slot_count i → is_closed (record i { closed = made_closed }) c s ≡ list_any (closes i c s) given
    closed_says c s known lt = looked_up made_closed c s lt ∙ made_at (slot_count i) of_course in_slot (course_count i) given c s known lt ∙ any_same (λ w. of_course w c && in_slot w s) (closes i c s) (course_closed c s) given each

    blocked_says : (r s : ℕ) → r < room_count i → s < slot_count i → is_blocked (record i { blocked = made_blocked }) r s ≡ list_any (blocks i r s) given
    blocked_says r s known lt = looked_up_room made_blocked r s lt ∙ made_at (slot_count i) of_room in_slot (room_count i) given r s known lt ∙ any_same (λ w. of_room w r && in_slot w s) (blocks i r s) (room_blocked r s) given each

    -- tables of the same lengths with the same marks are equal
    closed_same : (table : List Bool) → length table ≡ course_count i * slot_count i → ((c s : ℕ) → c < course_count i → s < slot_count i → is_closed (record i { closed = table }) c s ≡ list_any (closes i c s) given) → made_closed ≡ table
    closed_same table len says = made_same (slot_count i) of_course in_slot (course_count i) given table len (λ c s known lt.
        sym (looked_up table c s lt) ∙ says c s known lt ∙ sym (any_same (λ w. of_course w c && in_slot w s) (closes i c s) (course_closed c s) given each))

    blocked_same : (table : List Bool) → length table ≡ room_count i * slot_count i → ((r s : ℕ) → r < room_count i → s < slot_count i → is_blocked (record i { blocked = table }) r s ≡ list_any (blocks i r s) given) → made_blocked ≡ table
    blocked_same table len says = made_same (slot_count i) of_room in_slot (room_count i) given table len (λ r s known lt.
        sym (looked_up_room table r s lt) ∙ says r s known lt ∙ sym (any_same (λ w. of_room w r && in_slot w s) (blocks i r s) (room_blocked r s) given each))

    is_made : made_of given ≡ record { closed = made_closed; blocked = made_blocked }
    is_made = both (closed_made given (none_closed i)) (blocked_made given (none_closed i))
      where
        both : {m : Closures} {a b : List Bool} → m.closed ≡ a → m.blocked ≡ b → m ≡ record { closed = a; blocked = b }
        both {m} e f = ap₂ (λ a b. record { closed = a; blocked = b }) e f

  -- what is spelled fills the form
  spelled_fills : (count : List ℕ) (given : List BlockedWords) → IsUpTo 2000000 count → value count ≡ length given → Each (IsBlockedEntry i) given → Fills (closures i) (spelled_closures count given) (made_of given)
  unfolding closures
  spelled_fills = side_file_fills Expected BadNumber TooLarge (codes "Blocked:") (blocked_entry i) (none_closed i) spelled_blocked add_entry (IsBlockedEntry i) entry_fills

  -- what fills the form is spelled
  spelled_taken : (words : List (List ℕ)) (t : Closures) → Fills (closures i) words t → Given (codes "Blocked:") spelled_blocked add_entry (IsBlockedEntry i) (none_closed i) words t
  unfolding closures
  spelled_taken = side_file_taken Expected BadNumber TooLarge (codes "Blocked:") (blocked_entry i) (none_closed i) spelled_blocked add_entry (IsBlockedEntry i) entry_taken

  -- what fills the form is spelled, whatever follows it
  form_taken : (words rest : List (List ℕ)) (t : Closures) → Fills (closures i) words t → BlockSpells i (words ++ rest) t.closed t.blocked
  form_taken words rest t h =
      let g = spelled_taken words t h in
      let is : t ≡ record { closed = made_closed g.given g.each; blocked = made_blocked g.given g.each } = sym g.gives ∙ is_made g.given g.each in
      subst (λ m. BlockSpells i (words ++ rest) m.closed m.blocked) (sym is) (record {
        count = g.count;
        given = g.given;
        rest = rest;
        all = ap (λ ws. ws ++ rest) g.all;
        few = g.few;
        counted = g.counted;
        entries = g.each;
        courses_marked = made_length (slot_count i) of_course in_slot (course_count i) g.given;
        rooms_marked = made_length (slot_count i) of_room in_slot (room_count i) g.given;
        courses = closed_says g.given g.each;
        rooms = blocked_says g.given g.each;
      })

  -- what is parsed is spelled
  read_spelled : (words : List (List ℕ)) (t : Closures) → blocked_answer i words ≡ Ok t → BlockSpells i words t.closed t.blocked
  read_spelled words t h =
      let r = answer_fills ends_early (closures i) words t h in
      subst (λ ws. BlockSpells i ws t.closed t.blocked) (sym r.2) (form_taken r.0 r.1 t r.3)

  -- what is spelled is parsed
  spelled_read : (words : List (List ℕ)) (closed blocked : List Bool) → BlockSpells i words closed blocked → blocked_answer i words ≡ Ok (record { closed = closed; blocked = blocked })
  spelled_read words closed blocked s =
      let same : made_of s.given ≡ record { closed = closed; blocked = blocked }
      = is_made s.given s.entries ∙ ap₂ (λ a b. record { closed = a; blocked = b }) (closed_same s.given s.entries closed s.courses_marked s.courses) (blocked_same s.given s.entries blocked s.rooms_marked s.rooms) in
      ap (λ ws. blocked_answer i ws) s.all
      ∙ fills_answer ends_early (closures i) (spelled_closures s.count s.given) s.rest (record { closed = closed; blocked = blocked })
      (subst (λ x. Fills (closures i) (spelled_closures s.count s.given) x) same (spelled_fills s.count s.given s.few s.counted s.entries))

pub reads_blocked : ReadsBlocked
reads_blocked i words closed blocked = (read_spelled i words (record { closed = closed; blocked = blocked }), spelled_read i words closed blocked)

pub spells_one_blocked : SpellsOneBlocked
spells_one_blocked i words closed closed' blocked blocked' s s' =
    let same : ◌≡◌ {A = Closures} (record { closed = closed; blocked = blocked }) (record { closed = closed'; blocked = blocked' }) = ok_same {F = BlockedFault} _ _ (sym (spelled_read i words closed blocked s) ∙ spelled_read i words closed' blocked' s') in
    (ap (λ (m : Closures). m.closed) same, ap (λ (m : Closures). m.blocked) same)

pub blocked_fails_where_broken : BlockedFailsWhereBroken
blocked_fails_where_broken i words e = (answer_breaks ends_early (closures i) words e, λ k b. breaks_answer ends_early (closures i) words k e b)

pub blocked_breaks_once : BlockedBreaksOnce
blocked_breaks_once i words = breaks_once ends_early (closures i) words

pub blocked_spells_or_breaks : BlockedSpellsOrBreaks
blocked_spells_or_breaks i words =
    (by (answered ends_early (closures i) words), λ closed blocked k e s b. ok_is_err ⊥ (record { closed = closed; blocked = blocked }) e (sym (spelled_read i words closed blocked s) ∙ breaks_answer ends_early (closures i) words k e b))
  where
    by : ((t : Closures) × (blocked_answer i words ≡ Ok t)) ⊎ ((e : BlockedFault) × (blocked_answer i words ≡ Err e)) → ((closed : List Bool) × (blocked : List Bool) × BlockSpells i words closed blocked) ⊎ ((k : ℕ) × (fault : BlockedFault) × BlockBreaksAt i words k fault)
    by (inl x) = inl (x.0.closed, x.0.blocked, read_spelled i words x.0 x.1)
    by (inr x) = let b = answer_breaks ends_early (closures i) words x.0 x.1 in inr (b.0, x.0, b.1)
