-- The laws of the texts of barred rooms.
use Rattle.std.proofs.Common.{◌≡◌, ◌⊎◌, inl, inr, ℕ, ◌+◌, ◌*◌, ◌<◌, List, [], ◌∷◌, ◌++◌, length, Bool, true, false, ◌==◌, Ok, Err, refl, sym, ap, subst, ◌∙◌, mul_comm}
use Rattle.std.specs.Prelude.{codes, get_or, slice_set}
use Rattle.std.specs.List.{list_any, AllByRecursion as Each}
use Rattle.std.specs.Str.{bytes_eq}
use Rattle.std.proofs.lemmas.Bool.{lt-ltb}
use Rattle.std.proofs.lemmas.Nat.{mul-add-lt}
use Rattle.ctt_text.specs.declared.fault.BarredFault.{BarredFault}
use Rattle.ctt_text.specs.declared.fault.BarredFault.TheVariants.{Expected, BadNumber, TooLarge, UnknownCourse, UnknownRoom}
use Rattle.ctt_text.specs.Numbers.{value}
use Rattle.ctt_text.specs.Forms.{◌>>=◌, Fills}
use Rattle.ctt_text.specs.Places.{one, known, known_name}
use Rattle.ctt_problem.specs.Problem.{Problem, IsProblem, course_count, room_count, place_of, is_barred}
use Rattle.ctt_text.specs.InstanceText.{IsUpTo}
use Rattle.ctt_text.specs.BarredPlaces.{barred_pair, none_barred, barred_rooms, ends_early}
use Rattle.ctt_text.specs.BarredText.{BarredWords, spelled_barred, spelled_pairs, IsBarredPair, bars, BarSpells, BarBreaksAt}
use Rattle.ctt_text.specs.BarredLaws.{barred_answer, ReadsBarred, SpellsOneBarred, BarredFailsWhereBroken, BarredBreaksOnce, BarredSpellsOrBreaks}
use Rattle.ctt_text.proofs.FormLaws.{answer_fills, fills_answer, answer_breaks, breaks_answer, breaks_once, answered}
use Rattle.ctt_problem.proofs.ResultLemmas.{ok_same, ok_is_err}
use Rattle.ctt_text.proofs.SectionLaws.{Entry}
use Rattle.ctt_text.proofs.SideFileLaws.{Given, side_file_fills, side_file_taken}
use Rattle.ctt_problem.proofs.MarkLaws.{marked, marks_made, marks_many, marks_same, place_in_rows, Row, row_of}
use Rattle.ctt_text.proofs.PlaceLaws.{a_name, name_given}
use Rattle.ctt_problem.proofs.ListLaws.{place_below}

module _ (i : Problem) where
  -- the index of a pair in the table
  abbrev mark_of : BarredWords → ℕ
  mark_of w = place_of i.course_names w.course * room_count i + place_of i.room_names w.room

  abbrev add_pair : List Bool → BarredWords → List Bool
  add_pair s w = slice_set s (mark_of w) true

  -- a known course and a known room fill the form of a pair
  pair_fills : (s : List Bool) (w : BarredWords) → IsBarredPair i w → Fills (barred_pair i s) (spelled_barred w) (add_pair s w)
  unfolding barred_pair known_name known one ◌>>=◌
  pair_fills s w fit = (rw fit.0 refl, (rw fit.1 refl, rw (fit.0, fit.1) refl))

  -- what fills it is such a pair
  pair_taken : (s : List Bool) (words : List (List ℕ)) (t : List Bool) → Fills (barred_pair i s) words t → Entry spelled_barred add_pair (λ _. IsBarredPair i) s words t
  unfolding barred_pair known_name known one ◌>>=◌
  pair_taken s [] t h = absurd h
  pair_taken s (c ∷ []) t h = absurd h.1
  pair_taken s (c ∷ r ∷ []) t h = record {
    given = record { course = c; room = r };
    all = refl;
    fit = (a_name UnknownCourse c i.course_names h.0, a_name UnknownRoom r i.room_names h.1.0);
    gives = rw (name_given UnknownCourse c i.course_names h.0, name_given UnknownRoom r i.room_names h.1.0) at h.1.1;
  }
  pair_taken s (c ∷ r ∷ more ∷ words) t h = absurd h.1.1

  -- the table that the pairs make
  abbrev table_of : List BarredWords → List Bool
  table_of given = marked mark_of (none_barred i) given

  -- what is spelled fills the form
  spelled_fills : (count : List ℕ) (given : List BarredWords) → IsUpTo 2000000 count → value count ≡ length given → Each (IsBarredPair i) given → Fills (barred_rooms i) (spelled_pairs count given) (table_of given)
  unfolding barred_rooms
  spelled_fills = side_file_fills Expected BadNumber TooLarge (codes "Barred:") (barred_pair i) (none_barred i) spelled_barred add_pair (IsBarredPair i) pair_fills

  -- what fills the form is spelled
  spelled_taken : (words : List (List ℕ)) (t : List Bool) → Fills (barred_rooms i) words t → Given (codes "Barred:") spelled_barred add_pair (IsBarredPair i) (none_barred i) words t
  unfolding barred_rooms
  spelled_taken = side_file_taken Expected BadNumber TooLarge (codes "Barred:") (barred_pair i) (none_barred i) spelled_barred add_pair (IsBarredPair i) pair_taken

  -- a room in range is looked up in the table
  looked_up : (table : List Bool) (c r : ℕ) → r < room_count i → is_barred (record i { barred = table }) c r ≡ get_or table (c * room_count i + r) false
  looked_up table c r lt = rw (lt-ltb r (room_count i) lt) refl

  module _ (is : IsProblem i) where
    -- the room of a pair is one of the instance, and so is its place in the table
    room_within : (w : BarredWords) → IsBarredPair i w → place_of i.room_names w.room < room_count i
    room_within w e = subst (λ n. place_of i.room_names w.room < n) is.rooms_named (place_below (bytes_eq w.room) i.room_names e.1)

    within : (c r : ℕ) → c < course_count i → r < room_count i → c * room_count i + r < course_count i * room_count i
    within c r known lt = subst (λ n. c * room_count i + r < n) (mul_comm (room_count i) (course_count i)) (mul-add-lt c (room_count i) r (course_count i) known lt)

    mark_within : (w : BarredWords) → IsBarredPair i w → mark_of w < course_count i * room_count i
    mark_within w e = within (place_of i.course_names w.course) (place_of i.room_names w.room) (subst (λ n. place_of i.course_names w.course < n) is.courses_named (place_below (bytes_eq w.course) i.course_names e.0)) (room_within w e)

    -- the index of a pair is that of a course and a room exactly if the pair lists them
    listed : (c r : ℕ) → r < room_count i → (given : List BarredWords) → Each (IsBarredPair i) given → list_any (λ w. mark_of w == c * room_count i + r) given ≡ list_any (bars i c r) given
    listed c r lt [] each = refl
    listed c r lt (w ∷ given) each =
        rw (place_in_rows (room_count i) (place_of i.course_names w.course) (place_of i.room_names w.room) c r (room_within w each.0) lt, listed c r lt given each.1) refl

    module _ (given : List BarredWords) (each : Each (IsBarredPair i) given) where
      -- the table tells for each course and room whether a pair lists them
      table_says : (c r : ℕ) → c < course_count i → r < room_count i → is_barred (record i { barred = table_of given }) c r ≡ list_any (bars i c r) given
      table_says c r known lt = looked_up (table_of given) c r lt ∙ marks_made mark_of (course_count i * room_count i) given (c * room_count i + r) (within c r known lt) ∙ listed c r lt given each

      -- a table of the same length with the same marks is equal
      table_same : (table : List Bool) → length table ≡ course_count i * room_count i
          → ((c r : ℕ) → c < course_count i → r < room_count i → is_barred (record i { barred = table }) c r ≡ list_any (bars i c r) given) → table_of given ≡ table
      table_same table len says = marks_same mark_of (course_count i * room_count i) given table len (λ k lt.
          let r : Row (course_count i) (room_count i) k = row_of (course_count i) (room_count i) k lt in
          subst (λ n. get_or table n false ≡ list_any (λ w. mark_of w == n) given) r.place
          (sym (looked_up table r.row r.column r.column_below) ∙ says r.row r.column r.row_below r.column_below ∙ sym (listed r.row r.column r.column_below given each)))

    -- what fills the form is spelled, whatever follows it
    form_taken : (words rest : List (List ℕ)) (t : List Bool) → Fills (barred_rooms i) words t → BarSpells i (words ++ rest) t
    form_taken words rest t h =
        let g = spelled_taken words t h in
        record {
          count = g.count;
          given = g.given;
          rest = rest;
          all = ap (λ ws. ws ++ rest) g.all;
          few = g.few;
          counted = g.counted;
          pairs = g.each;
          marks = ap (λ x. length x) (sym g.gives) ∙ marks_many mark_of (course_count i * room_count i) g.given;
          barred = subst (λ x. (c r : ℕ) → c < course_count i → r < room_count i → is_barred (record i { barred = x }) c r ≡ list_any (bars i c r) g.given) g.gives (table_says g.given g.each);
        }

    -- what is parsed is spelled
    read_spelled : (words : List (List ℕ)) (t : List Bool) → barred_answer i words ≡ Ok t → BarSpells i words t
    read_spelled words t h =
        let r = answer_fills ends_early (barred_rooms i) words t h in
        subst (λ ws. BarSpells i ws t) (sym r.2) (form_taken r.0 r.1 t r.3)

    -- what is spelled is parsed
    spelled_read : (words : List (List ℕ)) (t : List Bool) → BarSpells i words t → barred_answer i words ≡ Ok t
    spelled_read words t s =
        ap (λ ws. barred_answer i ws) s.all
        ∙ fills_answer ends_early (barred_rooms i) (spelled_pairs s.count s.given) s.rest t
        (subst (λ x. Fills (barred_rooms i) (spelled_pairs s.count s.given) x) (table_same s.given s.pairs t s.marks s.barred) (spelled_fills s.count s.given s.few s.counted s.pairs))

pub reads_barred : ReadsBarred
reads_barred i words t is = (read_spelled i is words t, spelled_read i is words t)

pub spells_one_barred : SpellsOneBarred
spells_one_barred i words t u is s s' = ok_same {F = BarredFault} t u (sym (spelled_read i is words t s) ∙ spelled_read i is words u s')

pub barred_fails_where_broken : BarredFailsWhereBroken
barred_fails_where_broken i words e = (answer_breaks ends_early (barred_rooms i) words e, λ k b. breaks_answer ends_early (barred_rooms i) words k e b)

pub barred_breaks_once : BarredBreaksOnce
barred_breaks_once i words = breaks_once ends_early (barred_rooms i) words

pub barred_spells_or_breaks : BarredSpellsOrBreaks
barred_spells_or_breaks i words is =
    (by (answered ends_early (barred_rooms i) words), λ t k e s b. ok_is_err ⊥ t e (sym (spelled_read i is words t s) ∙ breaks_answer ends_early (barred_rooms i) words k e b))
  where
    by : ((t : List Bool) × (barred_answer i words ≡ Ok t)) ⊎ ((e : BarredFault) × (barred_answer i words ≡ Err e)) → ((t : List Bool) × BarSpells i words t) ⊎ ((k : ℕ) × (fault : BarredFault) × BarBreaksAt i words k fault)
    by (inl x) = inl (x.0, read_spelled i is words x.0 x.1)
    by (inr x) = let b = answer_breaks ends_early (barred_rooms i) words x.0 x.1 in inr (b.0, x.0, b.1)
