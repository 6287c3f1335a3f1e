-- The words written for a call match the grammar and give it back.
use Rattle.std.proofs.Common.{◌≡◌, ℕ, suc, ◌^◌, ◌<◌, ◌≤◌, List, [], ◌∷◌, length, Bool, true, false, Option, Some, None, ℤ, pos, negsuc, refl, sym, ap, subst, ◌∙◌, arith}
use Rattle.std.specs.Prelude.{codes, nat_lt, nat_le, nat_eq, slice_index_or, unsigned_abs}
use Rattle.std.specs.List.{list_all}
use Rattle.std.specs.Option.{option_map}
use Rattle.std.specs.Str.{bytes_eq}
use Rattle.std.specs.Fmt.{decimal, signed_decimal}
use Rattle.std.proofs.lemmas.Bool.{lt-ltb, le-leb, and_parts}
use Rattle.std.proofs.lemmas.Bool.Decides.{nat_tests}
use Rattle.std.proofs.lemmas.List.{append-nil}
use Rattle.std.proofs.lemmas.Fmt.{decimal_nonempty}
use Rattle.std.proofs.lemmas.Nat.{div-add-mod'}
use Rattle.ctt_text.specs.Numbers.{is_digit, value, number_of}
use Rattle.ctt_problem.specs.Problem.{Problem, IsProblem, number_in, day_of, period_of, course_count, room_count, slot_count, teacher_count, curriculum_count}
use Rattle.ctt_problem.specs.Named.{IsNamed, AreDistinct}
use Rattle.ctt_text.specs.Forms.{Form, done, ◌>>=◌, Fills}
use Rattle.ctt_text.specs.Places.{one, known, exactly, known_name, fixed, number}
use Rattle.ctt_text.proofs.FormLaws.{fills_both}
use Rattle.ctt_text.proofs.WrittenLaws.{decimal_digits, decimal_value, decimal_number, place_at, among_at, split}
use Rattle.ctt_edits.specs.declared.edit.Edit.{Edit}
use Rattle.ctt_edits.specs.declared.edit.Edit.TheVariants.{Place, Move, Swap, Reroom, Drop}
use Rattle.ctt_edits.specs.declared.looks.Look.{Look}
use Rattle.ctt_edits.specs.declared.looks.Look.TheVariants.{Course, Slot, Teacher, Curriculum, CourseCost, Cost, Price, Missing, Cheapest, Slots}
use Rattle.ctt_edits.specs.declared.pattern.Pattern.{Pattern}
use Rattle.ctt_edits.specs.declared.pattern.Pattern.TheVariants.{Place as AnyPlace, Move as AnyMove, Swap as AnySwap, Reroom as AnyReroom}
use Rattle.ctt_edits.specs.Offers.{pattern_of}
use Rattle.ctt_edits.specs.declared.slot_pattern.SlotPattern.{SlotPattern}
use Rattle.ctt_edits.specs.declared.slot_pattern.SlotPattern.TheVariants.{Place as ToAnyPlace, Move as ToAnyMove, Swap as ToAnySwap}
use Rattle.ctt_edits.specs.Patterns.{FitsIfGiven, IsRoomIfGiven, PatternFits}
use Rattle.ctt_edits.specs.declared.call.Call.{Call}
use Rattle.ctt_edits.specs.declared.call.Call.TheVariants.{Look as Looks, Edit as Edits}
use Rattle.ctt_edits.specs.Edits.{EditFits}
use Rattle.ctt_edits.specs.Looks.{LookFits}
use Rattle.ctt_edits.specs.Calls.{CallFits}
use Rattle.ctt_script.specs.declared.journal_fault.JournalFault.{JournalFault}
use Rattle.ctt_script.specs.declared.journal_fault.JournalFault.TheVariants.{BadWord}
use Rattle.ctt_script.specs.declared.kinds.EditKind.{EditKind}
use Rattle.ctt_script.specs.declared.kinds.LookKind.{LookKind}
use Rattle.ctt_script.specs.declared.kinds.CallKind.TheVariants as kind
use Rattle.ctt_script.specs.declared.kinds.EditKind.TheVariants as edit
use Rattle.ctt_script.specs.declared.kinds.LookKind.TheVariants as look
use Rattle.ctt_script.specs.Amounts.{amount_of, price_of, negated, number_below}
use Rattle.ctt_script.specs.Kinds.{edit_kind, pattern_kind, slot_pattern_kind, look_kind, call_kind}
use Rattle.ctt_edits.specs.Fitting.{IsAmount}
use Rattle.ctt_script.specs.JournalWords.{word, mark_or, label}
use Rattle.ctt_script.specs.Calls.{course_form, room_form, teacher, curriculum_form, slot, edit_after, edit_form, any_or, room_choice, slot_after, slot_choice, pattern_after, pattern_form, any_slot, anywhere_after, anywhere_form, look_after, look_form, call_after, call_form}
use Rattle.ctt_script.specs.Replies.{count, amount_form}
use Rattle.ctt_script.specs.WrittenWords.{course_word, room_word, day_word, period_word, edit_words, room_choice_word, day_choice_word, period_choice_word, pattern_words, look_words, call_words}
use Rattle.ctt_text.proofs.PlaceLaws.{then_fills}
use Rattle.ctt_problem.proofs.ListLaws.{bytes_sound}

-- numbers in decimal
pub count_says : (n : ℕ) → n ≤ 999999999 → number_of (decimal n) ≡ Some n
count_says n h =
    let small : n < 2 ^ 64 = omega arith in
    rw (decimal_number n h) (ap (λ v. Some v) (decimal_value n small))

pub below_says : (limit n : ℕ) → n < limit → n ≤ 999999999 → number_below limit (decimal n) ≡ Some n
below_says limit n lt h =
    let small : n < 2 ^ 64 = omega arith in
    let test : nat_lt (value (decimal n)) limit ≡ true = lt-ltb (value (decimal n)) limit (subst (λ v. v < limit) (sym (decimal_value n small)) lt) in
    rw (decimal_number n h, test) (ap (λ v. Some v) (decimal_value n small))

pub amount_says : (n : ℕ) → IsAmount n → amount_of (decimal n) ≡ Some n
amount_says n h =
    let small : n < 2 ^ 64 = omega arith in
    let least : nat_le (value (decimal n)) 9223372036854775807 ≡ true = le-leb (value (decimal n)) 9223372036854775807 (subst (λ v. v ≤ 9223372036854775807) (sym (decimal_value n small)) h) in
    rw (lt-ltb 0 (length (decimal n)) (decimal_nonempty n small), decimal_digits n small, least) (ap (λ v. Some v) (decimal_value n small))

-- digits do not begin with a sign
no_sign : (ds : List ℕ) (n : ℕ) → list_all is_digit ds ≡ true → amount_of ds ≡ Some n → price_of ds ≡ Some (pos n)
no_sign [] n digits h = cc
no_sign (b ∷ bs) n digits h =
    let digit : is_digit b ≡ true = (and_parts (is_digit b) (list_all is_digit bs) digits).0 in
    let other : nat_eq b 45 ≡ false = grind (arith, nat_tests) in
    rw other (ap (λ o. option_map pos o) h)

pub price_says : (p : ℤ) → IsAmount (unsigned_abs p) → price_of (signed_decimal p) ≡ Some p
price_says (pos n) h = no_sign (decimal n) n (decimal_digits n (omega arith)) (amount_says n h)
price_says (negsuc n) h = ap (λ o. option_map negated o) (amount_says (suc n) h)

-- names by their numbers
name_says : (names : List (List ℕ)) (n : ℕ) → AreDistinct names → n < length names → number_in names (slice_index_or names n []) ≡ Some n
name_says names n distinct lt = rw (among_at names n lt) (ap (λ k. Some k) (place_at names n distinct lt))

-- a word of a journal, and what follows it
pub word_then : {A B : Type 0} (meaning : List ℕ → Option A) (otherwise : A) (g : A → Form JournalFault B) (w : List ℕ) (ws : List (List ℕ)) (a : A) (b : B) → meaning w ≡ Some a → Fills (g a) ws b → Fills (word meaning otherwise >>= g) (w ∷ ws) b
word_then meaning otherwise g w ws a b h k = then_fills BadWord meaning otherwise g w ws a b h k

pub label_then : {B : Type 0} (text : List ℕ) (g : Unit {0} → Form JournalFault B) (ws : List (List ℕ)) (b : B) → exactly text text ≡ Some tt → Fills (g tt) ws b → Fills (label text >>= g) (text ∷ ws) b
unfolding fixed
label_then text g ws b h k = word_then (exactly text) tt g text ws tt b h k

pub count_then : {B : Type 0} (g : ℕ → Form JournalFault B) (n : ℕ) (ws : List (List ℕ)) (b : B) → n ≤ 999999999 → Fills (g n) ws b → Fills (count >>= g) (decimal n ∷ ws) b
unfolding count number
count_then g n ws b h k = word_then number_of 0 g (decimal n) ws n b (count_says n h) k

pub amount_then : {B : Type 0} (g : ℕ → Form JournalFault B) (n : ℕ) (ws : List (List ℕ)) (b : B) → IsAmount n → Fills (g n) ws b → Fills (amount_form >>= g) (decimal n ∷ ws) b
unfolding amount_form
amount_then g n ws b h k = word_then amount_of 0 g (decimal n) ws n b (amount_says n h) k

-- a grammar, and what is made of its value
pub fills_map : {A B : Type 0} (form : Form JournalFault A) (h : A → B) (ws : List (List ℕ)) (a : A) → Fills form ws a → Fills (form >>= λ x. done (h x)) ws (h a)
fills_map form h ws a fills = subst (λ us. Fills (form >>= λ x. done (h x)) us (h a)) (append-nil ws) (fills_both form (λ x. done (h x)) ws [] a (h a) fills refl)

-- what follows a word with this meaning
pub after_word : {A B : Type 0} (meaning : List ℕ → Option A) (otherwise : A) (g : A → Form JournalFault B) (w : List ℕ) (ws : List (List ℕ)) (a : A) (b : B) → meaning w ≡ Some a → Fills (word meaning otherwise >>= g) (w ∷ ws) b → Fills (g a) ws b
unfolding known one ◌>>=◌
after_word meaning otherwise g w ws a b h fills = (rw h at fills).1

-- a word other than the mark
not_mark : {A : Type 0} (mark : List ℕ) (meaning : List ℕ → Option A) (w : List ℕ) (a : A) → bytes_eq w mark ≡ false → meaning w ≡ Some a → mark_or mark meaning w ≡ Some (Some a)
not_mark mark meaning w a other h = rw (other, h) refl

-- a word with a meaning, if the mark has none
pub has_meaning : {A : Type 0} (mark : List ℕ) (meaning : List ℕ → Option A) (w : List ℕ) (a : A) → meaning mark ≡ None → meaning w ≡ Some a → mark_or mark meaning w ≡ Some (Some a)
has_meaning {A} mark meaning w a none h = by (bytes_eq w mark) refl
  where
    by : (b : Bool) → bytes_eq w mark ≡ b → mark_or mark meaning w ≡ Some (Some a)
    by true e = let no : None ≡ Some a = sym none ∙ ap meaning (sym (bytes_sound w mark e)) ∙ h in cc
    by false e = not_mark mark meaning w a e h

any_slot_fills : Fills any_slot (codes "*" ∷ codes "*" ∷ []) tt
unfolding any_slot fixed known one ◌>>=◌
any_slot_fills = (refl, (refl, refl))

module _ (i : Problem) (is : IsProblem i) (named : IsNamed i) where
  module _ {B : Type 0} where
    room_choice_then : (g : Option ℕ → Form JournalFault B) (r : Option ℕ) (ws : List (List ℕ)) (b : B) → IsRoomIfGiven i r → Fills (g r) ws b → Fills (room_choice i >>= g) (room_choice_word i r ∷ ws) b
    unfolding room_choice
    room_choice_then g None ws b f k = word_then (any_or (number_in i.room_names)) None g (codes "*") ws None b refl k
    room_choice_then g (Some r) ws b f k = word_then (any_or (number_in i.room_names)) None g (room_word i r) ws (Some r) b (not_mark (codes "*") (number_in i.room_names) (room_word i r) r f.1 (name_says i.room_names r named.rooms.0 (subst (λ n. r < n) (sym is.rooms_named) f.0))) k

    pub course_then : (g : ℕ → Form JournalFault B) (c : ℕ) (ws : List (List ℕ)) (b : B) → c < course_count i → Fills (g c) ws b → Fills (course_form i >>= g) (course_word i c ∷ ws) b
    unfolding course_form known_name
    course_then g c ws b lt k = word_then (number_in i.course_names) 0 g (course_word i c) ws c b (name_says i.course_names c named.courses.0 (subst (λ n. c < n) (sym is.courses_named) lt)) k

    pub room_then : (g : ℕ → Form JournalFault B) (r : ℕ) (ws : List (List ℕ)) (b : B) → r < room_count i → Fills (g r) ws b → Fills (room_form i >>= g) (room_word i r ∷ ws) b
    unfolding room_form known_name
    room_then g r ws b lt k = word_then (number_in i.room_names) 0 g (room_word i r) ws r b (name_says i.room_names r named.rooms.0 (subst (λ n. r < n) (sym is.rooms_named) lt)) k

    teacher_then : (g : ℕ → Form JournalFault B) (h : ℕ) (ws : List (List ℕ)) (b : B) → h < teacher_count i → Fills (g h) ws b → Fills (teacher i >>= g) (slice_index_or i.teacher_names h [] ∷ ws) b
    unfolding teacher known_name
    teacher_then g h ws b lt k = word_then (number_in i.teacher_names) 0 g (slice_index_or i.teacher_names h []) ws h b (name_says i.teacher_names h named.teachers.0 lt) k

    curriculum_then : (g : ℕ → Form JournalFault B) (q : ℕ) (ws : List (List ℕ)) (b : B) → q < curriculum_count i → Fills (g q) ws b → Fills (curriculum_form i >>= g) (slice_index_or i.curriculum_names q [] ∷ ws) b
    unfolding curriculum_form known_name
    curriculum_then g q ws b lt k = word_then (number_in i.curriculum_names) 0 g (slice_index_or i.curriculum_names q []) ws q b (name_says i.curriculum_names q named.curricula.0 (subst (λ n. q < n) (sym is.curricula_named) lt)) k

  slot_fills : (s : ℕ) → s < slot_count i → Fills (slot i) (day_word i s ∷ period_word i s ∷ []) s
  unfolding slot
  slot_fills s lt =
      let at = split i is named s lt in
      word_then (number_below i.days) 0 _ (day_word i s) _ (day_of i s) s (below_says i.days (day_of i s) at.day at.small_day)
      (word_then (number_below i.periods) 0 _ (period_word i s) [] (period_of i s) s (below_says i.periods (period_of i s) at.period at.small_period)
      (div-add-mod' s i.periods))

  pub slot_then : {B : Type 0} (g : ℕ → Form JournalFault B) (s : ℕ) (ws : List (List ℕ)) (b : B) → s < slot_count i → Fills (g s) ws b → Fills (slot i >>= g) (day_word i s ∷ period_word i s ∷ ws) b
  slot_then g s ws b lt k = fills_both (slot i) g (day_word i s ∷ period_word i s ∷ []) ws s b (slot_fills s lt) k

  pub edit_fills : (e : Edit) → EditFits i e → Fills (edit_form i) (edit_words i e) e
  unfolding edit_form edit_after edit_kind
  edit_fills (Place c s r) f = word_then edit_kind _ _ _ _ _ _ refl (course_then _ c _ _ f.0 (room_then _ r _ _ f.2 (slot_then _ s _ _ f.1 refl)))
  edit_fills (Move c s s2 r) f = word_then edit_kind _ _ _ _ _ _ refl (course_then _ c _ _ f.0 (slot_then _ s _ _ f.1 (room_then _ r _ _ f.3 (slot_then _ s2 _ _ f.2 refl))))
  edit_fills (Swap c s d s2) f = word_then edit_kind _ _ _ _ _ _ refl (course_then _ c _ _ f.0 (slot_then _ s _ _ f.1 (course_then _ d _ _ f.2 (slot_then _ s2 _ _ f.3 refl))))
  edit_fills (Reroom c s r) f = word_then edit_kind _ _ _ _ _ _ refl (course_then _ c _ _ f.0 (room_then _ r _ _ f.2 (slot_then _ s _ _ f.1 refl)))
  edit_fills (Drop c s) f = word_then edit_kind _ _ _ _ _ _ refl (course_then _ c _ _ f.0 (slot_then _ s _ _ f.1 refl))

  slot_choice_fills : (s : Option ℕ) → FitsIfGiven (slot_count i) s → Fills (slot_choice i) (day_choice_word i s ∷ period_choice_word i s ∷ []) s
  unfolding slot_choice slot_after
  slot_choice_fills None f = word_then (any_or (number_below i.days)) None _ (codes "*") _ None None refl (label_then (codes "*") _ [] None refl refl)
  slot_choice_fills (Some s) f =
      let at = split i is named s f in
      word_then (any_or (number_below i.days)) None _ (day_word i s) _ (Some (day_of i s)) (Some s) (has_meaning (codes "*") (number_below i.days) (day_word i s) (day_of i s) refl (below_says i.days (day_of i s) at.day at.small_day))
      (word_then (number_below i.periods) 0 _ (period_word i s) [] (period_of i s) (Some s) (below_says i.periods (period_of i s) at.period at.small_period)
      (ap (λ n. Some n) (div-add-mod' s i.periods)))

  slot_choice_then : {B : Type 0} (g : Option ℕ → Form JournalFault B) (s : Option ℕ) (ws : List (List ℕ)) (b : B) → FitsIfGiven (slot_count i) s → Fills (g s) ws b → Fills (slot_choice i >>= g) (day_choice_word i s ∷ period_choice_word i s ∷ ws) b
  slot_choice_then g s ws b f k = fills_both (slot_choice i) g (day_choice_word i s ∷ period_choice_word i s ∷ []) ws s b (slot_choice_fills s f) k

  pattern_fills : (p : Pattern) → PatternFits i p → Fills (pattern_form i) (pattern_words i p) p
  unfolding pattern_form pattern_after pattern_kind
  pattern_fills (AnyPlace c s r) f = word_then pattern_kind _ _ _ _ _ _ refl (course_then _ c _ _ f.0 (room_choice_then _ r _ _ f.2 (slot_choice_then _ s _ _ f.1 refl)))
  pattern_fills (AnyMove c s s2 r) f = word_then pattern_kind _ _ _ _ _ _ refl (course_then _ c _ _ f.0 (slot_then _ s _ _ f.1 (room_choice_then _ r _ _ f.3 (slot_choice_then _ s2 _ _ f.2 refl))))
  pattern_fills (AnySwap c s) f = word_then pattern_kind _ _ _ _ _ _ refl (course_then _ c _ _ f.0 (slot_then _ s _ _ f.1 (label_then (codes "*") _ _ _ refl (label_then (codes "*") _ _ _ refl (label_then (codes "*") _ _ _ refl refl)))))
  pattern_fills (AnyReroom c s r) f = word_then pattern_kind _ _ _ _ _ _ refl (course_then _ c _ _ f.0 (room_choice_then _ r _ _ f.2 (slot_then _ s _ _ f.1 refl)))

  any_slot_then : {B : Type 0} (g : Unit {0} → Form JournalFault B) (ws : List (List ℕ)) (b : B) → Fills (g tt) ws b → Fills (any_slot >>= g) (codes "*" ∷ codes "*" ∷ ws) b
  any_slot_then g ws b k = fills_both any_slot g (codes "*" ∷ codes "*" ∷ []) ws tt b any_slot_fills k

  slot_pattern_fills : (p : SlotPattern) → PatternFits i (pattern_of p) → Fills (anywhere_form i) (pattern_words i (pattern_of p)) p
  unfolding anywhere_form anywhere_after slot_pattern_kind
  slot_pattern_fills (ToAnyPlace c r) f = word_then slot_pattern_kind _ _ _ _ _ _ refl (course_then _ c _ _ f.0 (room_choice_then _ r _ _ f.2 (any_slot_then _ [] _ refl)))
  slot_pattern_fills (ToAnyMove c s r) f = word_then slot_pattern_kind _ _ _ _ _ _ refl (course_then _ c _ _ f.0 (slot_then _ s _ _ f.1 (room_choice_then _ r _ _ f.3 (any_slot_then _ [] _ refl))))
  slot_pattern_fills (ToAnySwap c s) f = word_then slot_pattern_kind _ _ _ _ _ _ refl (course_then _ c _ _ f.0 (slot_then _ s _ _ f.1 (label_then (codes "*") _ _ _ refl (any_slot_then _ [] _ refl))))

  pub look_fills : (l : Look) → LookFits i l → Fills (look_form i) (look_words i l) l
  unfolding look_form look_after look_kind
  look_fills (Course c) f = word_then look_kind _ _ _ _ _ _ refl (course_then _ c _ _ f refl)
  look_fills (Slot s) f = word_then look_kind _ _ _ _ _ _ refl (slot_then _ s _ _ f refl)
  look_fills (Teacher h) f = word_then look_kind _ _ _ _ _ _ refl (teacher_then _ h _ _ f refl)
  look_fills (Curriculum q) f = word_then look_kind _ _ _ _ _ _ refl (curriculum_then _ q _ _ f refl)
  look_fills (CourseCost c) f = word_then look_kind _ _ _ _ _ _ refl (course_then _ c _ _ f refl)
  look_fills Cost f = word_then look_kind _ _ _ _ _ _ refl refl
  look_fills (Price e) f = word_then look_kind _ _ _ _ _ _ refl (fills_map (edit_form i) Price (edit_words i e) e (edit_fills e f))
  look_fills Missing f = word_then look_kind _ _ _ _ _ _ refl refl
  look_fills (Cheapest n p) f = word_then look_kind _ _ _ _ _ _ refl (word_then (number_below 1001) 0 _ (decimal n) _ n _ (below_says 1001 n (omega (arith, f.0)) (omega (arith, f.0))) (fills_map (pattern_form i) (λ q. Cheapest n q) (pattern_words i p) p (pattern_fills p f.1)))
  look_fills (Slots p) f = word_then look_kind _ _ _ _ _ _ refl (fills_map (anywhere_form i) Slots (pattern_words i (pattern_of p)) p (slot_pattern_fills p f))

  -- an edit or a look, as a call
  call_edit : (k : EditKind) (w : List ℕ) (ws : List (List ℕ)) (e : Edit) → edit_kind w ≡ Some k → call_kind w ≡ Some (kind.Edit k) → Fills (edit_form i) (w ∷ ws) e → Fills (call_form i) (w ∷ ws) (Edits e)
  unfolding call_form call_after edit_form
  call_edit k w ws e h j fills = word_then call_kind _ _ w ws (kind.Edit k) (Edits e) j (fills_map (edit_after i k) Edits ws e (after_word edit_kind edit.Place (edit_after i) w ws k e h fills))

  call_look : (k : LookKind) (w : List ℕ) (ws : List (List ℕ)) (l : Look) → look_kind w ≡ Some k → call_kind w ≡ Some (kind.Look k) → Fills (look_form i) (w ∷ ws) l → Fills (call_form i) (w ∷ ws) (Looks l)
  unfolding call_form call_after look_form
  call_look k w ws l h j fills = word_then call_kind _ _ w ws (kind.Look k) (Looks l) j (fills_map (look_after i k) Looks ws l (after_word look_kind look.Cost (look_after i) w ws k l h fills))

  pub call_fills : (c : Call) → CallFits i c → Fills (call_form i) (call_words i c) c
  unfolding call_kind edit_kind look_kind
  call_fills (Edits (Place c s r)) f = call_edit edit.Place _ _ _ refl refl (edit_fills (Place c s r) f)
  call_fills (Edits (Move c s s2 r)) f = call_edit edit.Move _ _ _ refl refl (edit_fills (Move c s s2 r) f)
  call_fills (Edits (Swap c s d s2)) f = call_edit edit.Swap _ _ _ refl refl (edit_fills (Swap c s d s2) f)
  call_fills (Edits (Reroom c s r)) f = call_edit edit.Reroom _ _ _ refl refl (edit_fills (Reroom c s r) f)
  call_fills (Edits (Drop c s)) f = call_edit edit.Drop _ _ _ refl refl (edit_fills (Drop c s) f)
  call_fills (Looks (Course c)) f = call_look look.Course _ _ _ refl refl (look_fills (Course c) f)
  call_fills (Looks (Slot s)) f = call_look look.Slot _ _ _ refl refl (look_fills (Slot s) f)
  call_fills (Looks (Teacher h)) f = call_look look.Teacher _ _ _ refl refl (look_fills (Teacher h) f)
  call_fills (Looks (Curriculum q)) f = call_look look.Curriculum _ _ _ refl refl (look_fills (Curriculum q) f)
  call_fills (Looks (CourseCost c)) f = call_look look.CourseCost _ _ _ refl refl (look_fills (CourseCost c) f)
  call_fills (Looks Cost) f = call_look look.Cost _ _ _ refl refl (look_fills Cost f)
  call_fills (Looks (Price e)) f = call_look look.Price _ _ _ refl refl (look_fills (Price e) f)
  call_fills (Looks Missing) f = call_look look.Missing _ _ _ refl refl (look_fills Missing f)
  call_fills (Looks (Cheapest n p)) f = call_look look.Cheapest _ _ _ refl refl (look_fills (Cheapest n p) f)
  call_fills (Looks (Slots p)) f = call_look look.Slots _ _ _ refl refl (look_fills (Slots p) f)
