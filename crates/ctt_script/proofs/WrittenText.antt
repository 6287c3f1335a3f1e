-- The words of the text that is written for a journal.
use Rattle.std.proofs.Common.{◌≡◌, ℕ, suc, ◌<◌, ◌≤◌, List, [], ◌∷◌, ◌++◌, length, flat_map, Bool, true, false, not, ◌&&◌, Option, Some, None, ℤ, pos, negsuc, refl, sym, ap, subst, ◌∙◌, arith, append_assoc}
use Rattle.std.specs.Prelude.{codes, nat_lt, slice_index_or, unsigned_abs}
use Rattle.std.specs.List.{list_all, AllByRecursion as Each}
use Rattle.std.specs.Fmt.{decimal, signed_decimal}
use Rattle.std.proofs.lemmas.Bool.{and_parts, ltb-true}
use Rattle.ctt_text.specs.Words.{words}
use Rattle.ctt_problem.specs.Named.{is_blank, IsWord, IsNamed}
use Rattle.ctt_problem.specs.Problem.{Problem, IsProblem, course_count, room_count, slot_count, teacher_count, curriculum_count}
use Rattle.ctt_problem.specs.Timetable.{Fits}
use Rattle.ctt_problem.specs.declared.placed.Placed.{Placed}
use Rattle.ctt_problem.proofs.TimetableLemmas.{Each-at}
use Rattle.ctt_text.proofs.WrittenLaws.{decimal_word, word_first, space_blank, line_end_blank, split}
use Rattle.ctt_edits.specs.declared.edit.Edit.{Edit}
use Rattle.ctt_edits.specs.declared.edit.Edit.TheVariants.{Place, Move, Swap, Reroom, Drop}
use Rattle.ctt_edits.specs.declared.looks.Look.{Look}
use Rattle.ctt_edits.specs.declared.looks.Look.TheVariants.{Course, Slot, Teacher, Curriculum, CourseCost, Cost, Price, Missing, Cheapest, Slots}
use Rattle.ctt_edits.specs.declared.pattern.Pattern.{Pattern}
use Rattle.ctt_edits.specs.declared.pattern.Pattern.TheVariants.{Place as AnyPlace, Move as AnyMove, Swap as AnySwap, Reroom as AnyReroom}
use Rattle.ctt_edits.specs.Offers.{pattern_of}
use Rattle.ctt_edits.specs.declared.offer.Offer.{Offer}
use Rattle.ctt_edits.specs.declared.offer.Offer.TheVariants as offer
use Rattle.ctt_edits.specs.declared.priced_edit.PricedEdit.{PricedEdit}
use Rattle.ctt_edits.specs.declared.shortfall.Shortfall.{Shortfall}
use Rattle.ctt_edits.specs.Patterns.{FitsIfGiven, IsRoomIfGiven, PatternFits}
use Rattle.ctt_edits.specs.declared.call.Call.{Call}
use Rattle.ctt_edits.specs.declared.call.Call.TheVariants.{Look as Looks, Edit as Edits}
use Rattle.ctt_edits.specs.declared.fault.EditFault.{EditFault}
use Rattle.ctt_edits.specs.declared.fault.EditFault.TheVariants.{NotPlaced, SameSlot, SameCourse, AlreadyThere, CourseFull, Unavailable, Barred, Blocked, Clash, RoomTaken}
use Rattle.ctt_edits.specs.Edits.{EditFits}
use Rattle.ctt_edits.specs.Looks.{LookFits}
use Rattle.ctt_edits.specs.declared.reply.Reply.{Reply}
use Rattle.ctt_edits.specs.declared.reply.Reply.TheVariants.{Done, Refused, Lectures, Costs, Price as Priced, Missing as AreMissing, Edits as AreCheapest, Slots as AreOffers}
use Rattle.ctt_edits.specs.Calls.{CallFits}
use Rattle.ctt_draft.specs.declared.asked.Asked.{Asked}
use Rattle.ctt_core.specs.declared.journal.JournalEntry.{JournalEntry}
use Rattle.ctt_edits.specs.Fitting.{FaultFits, IsAmount, ShortfallFits, PricedFits, OfferFits, ReplyFits, AreFew, IsShortReply}
use Rattle.ctt_draft.specs.Drafts.{AskedFits}
use Rattle.ctt_core.specs.Entries.{EntryFits}
use Rattle.ctt_script.specs.Entries.{IsShort, IsAsked, CanBeWritten}
use Rattle.ctt_script.specs.JournalText.{JournalSpells}
use Rattle.ctt_script.specs.WrittenWords.{course_word, room_word, day_word, period_word, edit_words, room_choice_word, day_choice_word, period_choice_word, pattern_words, look_words, call_words, fault_words, lecture_words, shortfall_words, priced_words, offer_words, reply_words, asked_words, entry_words, journal_words}
use Rattle.ctt_line.specs.Lines.{line, rest_of_line, words_part}
use Rattle.ctt_script.specs.WrittenText.{asked_text, entry_text, joined, journal_text}
use Rattle.ctt_script.proofs.WrittenWords.{journal_fills}

-- words, each of them
abbrev pub AreWords : List (List ℕ) → Type 0
AreWords ws = Each IsWord ws

-- a word that is known is tested
solid : List ℕ → Bool
solid bs = nat_lt 0 (length bs) && list_all (λ b. not (is_blank b)) bs

is_solid : (bs : List ℕ) → solid bs ≡ true → IsWord bs
unfolding solid
is_solid bs h =
    let parts = and_parts (nat_lt 0 (length bs)) (list_all (λ b. not (is_blank b)) bs) h in
    (ltb-true 0 (length bs) parts.0, each bs parts.1)
  where
    turned : (b : Bool) → not b ≡ true → b ≡ false
    turned true e = cc
    turned false e = refl

    each : (bs : List ℕ) → list_all (λ b. not (is_blank b)) bs ≡ true → Each (λ b. is_blank b ≡ false) bs
    each [] e = tt
    each (b ∷ bs) e =
        let parts = and_parts (not (is_blank b)) (list_all (λ b. not (is_blank b)) bs) e in
        (turned (is_blank b) parts.0, each bs parts.1)

-- a word with a blank after it, in a text that goes on
word_then : (w : List ℕ) (c : ℕ) (tail rest : List ℕ) → IsWord w → is_blank c ≡ true → words ((w ++ c ∷ tail) ++ rest) ≡ w ∷ words (tail ++ rest)
word_then w c tail rest is blank = ap (λ bs. words bs) (append_assoc w (c ∷ tail) rest) ∙ word_first w c (tail ++ rest) is blank

-- the words of a line
rest_words : (ws : List (List ℕ)) (w : List ℕ) (rest : List ℕ) → IsWord w → AreWords ws → words ((w ++ rest_of_line ws) ++ rest) ≡ w ∷ ws ++ words rest
rest_words [] w rest is each = word_then w 10 [] rest is line_end_blank
rest_words (v ∷ ws) w rest is each =
    word_then w 32 (v ++ rest_of_line ws) rest is space_blank ∙ ap (λ x. w ∷ x) (rest_words ws v rest each.0 each.1)

pub line_words : (w : List ℕ) (ws : List (List ℕ)) (rest : List ℕ) → AreWords (w ∷ ws) → words (line (w ∷ ws) ++ rest) ≡ (w ∷ ws) ++ words rest
line_words w ws rest each = rest_words ws w rest each.0 each.1

-- a line that has words
any_line : (ws : List (List ℕ)) (rest : List ℕ) → (ws ≡ [] → ⊥) → AreWords ws → words (line ws ++ rest) ≡ ws ++ words rest
any_line [] rest some each = absurd (some refl)
any_line (w ∷ ws) rest some each = line_words w ws rest each

-- parts of a text, each with its words
module _ {A : Type 0} (P : A → Type 0) (text : A → List ℕ) (spelled : A → List (List ℕ)) where
  pub parts_words : ((a : A) → P a → (rest : List ℕ) → words (text a ++ rest) ≡ spelled a ++ words rest) → (xs : List A) → Each P xs → (rest : List ℕ) → words (flat_map text xs ++ rest) ≡ flat_map spelled xs ++ words rest
  parts_words h [] each rest = refl
  parts_words h (x ∷ xs) each rest =
      ap (λ bs. words bs) (append_assoc (text x) (flat_map text xs) rest)
      ∙ h x each.0 (flat_map text xs ++ rest)
      ∙ ap (λ ws. spelled x ++ ws) (parts_words h xs each.1 rest)
      ∙ sym (append_assoc (spelled x) (flat_map spelled xs) (words rest))

-- two texts, one after the other
two_words : (a b : List ℕ) (us vs : List (List ℕ)) (rest : List ℕ) → ((r : List ℕ) → words (a ++ r) ≡ us ++ words r) → ((r : List ℕ) → words (b ++ r) ≡ vs ++ words r) → words ((a ++ b) ++ rest) ≡ (us ++ vs) ++ words rest
two_words a b us vs rest h k = ap (λ bs. words bs) (append_assoc a b rest) ∙ h (b ++ rest) ∙ ap (λ ws. us ++ ws) (k rest) ∙ sym (append_assoc us vs (words rest))

-- words in two parts at the end of a line
rest_part : (ws vs : List (List ℕ)) → rest_of_line (ws ++ vs) ≡ words_part ws ++ rest_of_line vs
rest_part [] vs = refl
rest_part (w ∷ ws) vs = ap (λ x. 32 ∷ (w ++ x)) (rest_part ws vs) ∙ ap (λ x. 32 ∷ x) (sym (append_assoc w (words_part ws) (rest_of_line vs)))

-- the end of a line is its words and a line feed
pub rest_joined : (ws : List (List ℕ)) → rest_of_line ws ≡ words_part ws ++ codes "\n"
rest_joined [] = refl
rest_joined (w ∷ ws) = ap (λ x. 32 ∷ (w ++ x)) (rest_joined ws) ∙ ap (λ x. 32 ∷ x) (sym (append_assoc w (words_part ws) (codes "\n")))

-- so is a whole line
pub joined_line : (ws : List (List ℕ)) → line ws ≡ joined ws ++ codes "\n"
joined_line [] = refl
joined_line (w ∷ ws) = ap (λ x. w ++ x) (rest_joined ws) ∙ sym (append_assoc w (words_part ws) (codes "\n"))

-- words after a blank
pub edit_joined : (i : Problem) (e : Edit) → words_part (edit_words i e) ≡ codes " " ++ joined (edit_words i e)
edit_joined i (Place c s r) = refl
edit_joined i (Move c s s2 r) = refl
edit_joined i (Swap c s d s2) = refl
edit_joined i (Reroom c s r) = refl
edit_joined i (Drop c s) = refl

pub pattern_joined : (i : Problem) (p : Pattern) → words_part (pattern_words i p) ≡ codes " " ++ joined (pattern_words i p)
pattern_joined i (AnyPlace c s r) = refl
pattern_joined i (AnyMove c s s2 r) = refl
pattern_joined i (AnySwap c s) = refl
pattern_joined i (AnyReroom c s r) = refl

pub fault_joined : (i : Problem) (f : EditFault) → words_part (fault_words i f) ≡ codes " " ++ joined (fault_words i f)
fault_joined i NotPlaced = refl
fault_joined i SameSlot = refl
fault_joined i SameCourse = refl
fault_joined i AlreadyThere = refl
fault_joined i CourseFull = refl
fault_joined i Unavailable = refl
fault_joined i Barred = refl
fault_joined i Blocked = refl
fault_joined i (Clash c) = refl
fault_joined i (RoomTaken c) = refl

pub ruleset after_blank = (rest_joined, edit_joined, pattern_joined, fault_joined)

-- the words of several at the end of a line
pub parts_end : {X : Type 0} (f : X → List (List ℕ)) (xs : List X) → rest_of_line (flat_map f xs) ≡ flat_map (λ x. words_part (f x)) xs ++ codes "\n"
parts_end f [] = refl
parts_end f (x ∷ xs) =
    rest_part (f x) (flat_map f xs) ∙ ap (λ y. words_part (f x) ++ y) (parts_end f xs)
    ∙ sym (append_assoc (words_part (f x)) (flat_map (λ y. words_part (f y)) xs) (codes "\n"))

-- the same, item by item
abbrev pub items_part : {X : Type 0} → (X → List (List ℕ)) → List X → List ℕ
items_part f [] = codes "\n"
items_part f (x ∷ xs) = words_part (f x) ++ items_part f xs

pub items_end : {X : Type 0} (f : X → List (List ℕ)) (xs : List X) → items_part f xs ≡ rest_of_line (flat_map f xs)
items_end f [] = refl
items_end f (x ∷ xs) = ap (λ y. words_part (f x) ++ y) (items_end f xs) ∙ sym (rest_part (f x) (flat_map f xs))

-- the line of items, from its beginning
pub items_begin : {X : Type 0} (f : X → List (List ℕ)) (xs : List X) (kind count start : List ℕ) → ((start ++ kind) ++ words_part (count ∷ [])) ++ items_part f xs ≡ start ++ line (kind ∷ count ∷ flat_map f xs)
items_begin f xs kind count start =
    append_assoc (start ++ kind) (words_part (count ∷ [])) (items_part f xs) ∙ append_assoc start kind (words_part (count ∷ []) ++ items_part f xs)
    ∙ ap (λ q. start ++ (kind ++ q)) (ap (λ q. words_part (count ∷ []) ++ q) (items_end f xs) ∙ sym (rest_part (count ∷ []) (flat_map f xs)))

amount_word : (n : ℕ) → IsAmount n → IsWord (decimal n)
amount_word n h = decimal_word n (omega arith)

count_word : (n : ℕ) → n ≤ 999999999 → IsWord (decimal n)
count_word n h = decimal_word n (omega arith)

price_word : (p : ℤ) → IsAmount (unsigned_abs p) → IsWord (signed_decimal p)
unfolding is_blank
price_word (pos n) h = amount_word n h
price_word (negsuc n) h =
    let digits : IsWord (decimal (suc n)) = amount_word (suc n) h in
    (omega arith, (refl, digits.1))

module _ (i : Problem) (is : IsProblem i) (named : IsNamed i) where
  course_is : (c : ℕ) → c < course_count i → IsWord (course_word i c)
  course_is c lt = Each-at IsWord i.course_names named.courses.1 c [] (subst (λ n. c < n) (sym is.courses_named) lt)

  room_is : (r : ℕ) → r < room_count i → IsWord (room_word i r)
  room_is r lt = Each-at IsWord i.room_names named.rooms.1 r [] (subst (λ n. r < n) (sym is.rooms_named) lt)

  teacher_is : (h : ℕ) → h < teacher_count i → IsWord (slice_index_or i.teacher_names h [])
  teacher_is h lt = Each-at IsWord i.teacher_names named.teachers.1 h [] lt

  curriculum_is : (q : ℕ) → q < curriculum_count i → IsWord (slice_index_or i.curriculum_names q [])
  curriculum_is q lt = Each-at IsWord i.curriculum_names named.curricula.1 q [] (subst (λ n. q < n) (sym is.curricula_named) lt)

  day_is : (s : ℕ) → s < slot_count i → IsWord (day_word i s)
  day_is s lt = count_word _ (split i is named s lt).small_day

  period_is : (s : ℕ) → s < slot_count i → IsWord (period_word i s)
  period_is s lt = count_word _ (split i is named s lt).small_period

  edit_are : (e : Edit) → EditFits i e → AreWords (edit_words i e)
  unfolding is_blank solid
  edit_are (Place c s r) f = (is_solid (codes "place") refl, (course_is c f.0, (room_is r f.2, (day_is s f.1, (period_is s f.1, tt)))))
  edit_are (Move c s s2 r) f = (is_solid (codes "move") refl, (course_is c f.0, (day_is s f.1, (period_is s f.1, (room_is r f.3, (day_is s2 f.2, (period_is s2 f.2, tt)))))))
  edit_are (Swap c s d s2) f = (is_solid (codes "swap") refl, (course_is c f.0, (day_is s f.1, (period_is s f.1, (course_is d f.2, (day_is s2 f.3, (period_is s2 f.3, tt)))))))
  edit_are (Reroom c s r) f = (is_solid (codes "reroom") refl, (course_is c f.0, (room_is r f.2, (day_is s f.1, (period_is s f.1, tt)))))
  edit_are (Drop c s) f = (is_solid (codes "drop") refl, (course_is c f.0, (day_is s f.1, (period_is s f.1, tt))))

  star_is : IsWord (codes "*")
  unfolding is_blank solid
  star_is = is_solid (codes "*") refl

  room_choice_is : (r : Option ℕ) → IsRoomIfGiven i r → IsWord (room_choice_word i r)
  room_choice_is None f = star_is
  room_choice_is (Some r) f = room_is r f.0

  day_choice_is : (s : Option ℕ) → FitsIfGiven (slot_count i) s → IsWord (day_choice_word i s)
  day_choice_is None f = star_is
  day_choice_is (Some s) f = day_is s f

  period_choice_is : (s : Option ℕ) → FitsIfGiven (slot_count i) s → IsWord (period_choice_word i s)
  period_choice_is None f = star_is
  period_choice_is (Some s) f = period_is s f

  pattern_are : (p : Pattern) → PatternFits i p → AreWords (pattern_words i p)
  unfolding is_blank solid
  pattern_are (AnyPlace c s r) f = (is_solid (codes "place") refl, (course_is c f.0, (room_choice_is r f.2, (day_choice_is s f.1, (period_choice_is s f.1, tt)))))
  pattern_are (AnyMove c s s2 r) f = (is_solid (codes "move") refl, (course_is c f.0, (day_is s f.1, (period_is s f.1, (room_choice_is r f.3, (day_choice_is s2 f.2, (period_choice_is s2 f.2, tt)))))))
  pattern_are (AnySwap c s) f = (is_solid (codes "swap") refl, (course_is c f.0, (day_is s f.1, (period_is s f.1, (star_is, (star_is, (star_is, tt)))))))
  pattern_are (AnyReroom c s r) f = (is_solid (codes "reroom") refl, (course_is c f.0, (room_choice_is r f.2, (day_is s f.1, (period_is s f.1, tt)))))

  look_are : (l : Look) → LookFits i l → AreWords (look_words i l)
  unfolding is_blank solid
  look_are (Course c) f = (is_solid (codes "course") refl, (course_is c f, tt))
  look_are (Slot s) f = (is_solid (codes "slot") refl, (day_is s f, (period_is s f, tt)))
  look_are (Teacher h) f = (is_solid (codes "teacher") refl, (teacher_is h f, tt))
  look_are (Curriculum q) f = (is_solid (codes "curriculum") refl, (curriculum_is q f, tt))
  look_are (CourseCost c) f = (is_solid (codes "coursecost") refl, (course_is c f, tt))
  look_are Cost f = (is_solid (codes "cost") refl, tt)
  look_are (Price e) f = (is_solid (codes "price") refl, edit_are e f)
  look_are Missing f = (is_solid (codes "missing") refl, tt)
  look_are (Cheapest n p) f = (is_solid (codes "cheapest") refl, (count_word n (omega (arith, f.0)), pattern_are p f.1))
  look_are (Slots p) f = (is_solid (codes "slots") refl, pattern_are (pattern_of p) f)

  fault_are : (x : EditFault) → FaultFits i x → AreWords (fault_words i x)
  unfolding is_blank solid
  fault_are NotPlaced f = (is_solid (codes "notplaced") refl, tt)
  fault_are SameSlot f = (is_solid (codes "sameslot") refl, tt)
  fault_are SameCourse f = (is_solid (codes "samecourse") refl, tt)
  fault_are AlreadyThere f = (is_solid (codes "already") refl, tt)
  fault_are CourseFull f = (is_solid (codes "full") refl, tt)
  fault_are Unavailable f = (is_solid (codes "unavailable") refl, tt)
  fault_are Barred f = (is_solid (codes "barred") refl, tt)
  fault_are Blocked f = (is_solid (codes "blocked") refl, tt)
  fault_are (Clash c) f = (is_solid (codes "clash") refl, (course_is c f, tt))
  fault_are (RoomTaken c) f = (is_solid (codes "roomtaken") refl, (course_is c f, tt))

  lectures_are : (ls : List Placed) → Each (Fits i) ls → AreWords (flat_map (lecture_words i) ls)
  lectures_are [] f = tt
  lectures_are (l ∷ ls) f = (course_is l.course f.0.0, (room_is l.room f.0.2, (day_is l.slot f.0.1, (period_is l.slot f.0.1, lectures_are ls f.1))))

  shortfalls_are : (xs : List Shortfall) → Each (ShortfallFits i) xs → AreWords (flat_map (shortfall_words i) xs)
  shortfalls_are [] f = tt
  shortfalls_are (x ∷ xs) f = (course_is x.course f.0.0, (count_word x.missing f.0.1, shortfalls_are xs f.1))

  both_are : (us vs : List (List ℕ)) → AreWords us → AreWords vs → AreWords (us ++ vs)
  both_are [] vs f g = g
  both_are (u ∷ us) vs f g = (f.0, both_are us vs f.1 g)

  priced_are : (xs : List PricedEdit) → Each (PricedFits i) xs → AreWords (flat_map (priced_words i) xs)
  priced_are [] f = tt
  priced_are (x ∷ xs) f = (price_word x.price f.0.1, both_are (edit_words i x.edit) (flat_map (priced_words i) xs) (edit_are x.edit f.0.0) (priced_are xs f.1))

  offer_are : (x : Offer) → OfferFits i x → AreWords (offer_words i x)
  unfolding is_blank solid
  offer_are (offer.Priced p) f = (price_word p.price f.1, edit_are p.edit f.0)
  offer_are (offer.Refused x) f = (is_solid (codes "-") refl, fault_are x f)
  offer_are offer.Nothing f = (is_solid (codes "-") refl, (is_solid (codes "none") refl, tt))

  offers_are : (xs : List Offer) → Each (OfferFits i) xs → AreWords (flat_map (offer_words i) xs)
  offers_are [] f = tt
  offers_are (x ∷ xs) f = both_are (offer_words i x) (flat_map (offer_words i) xs) (offer_are x f.0) (offers_are xs f.1)

  reply_are : (t : Reply) → IsShortReply t → ReplyFits i t → AreWords (reply_words i t)
  unfolding is_blank solid
  reply_are Done short f = (is_solid (codes "done") refl, tt)
  reply_are (Refused x) short f = (is_solid (codes "refused") refl, fault_are x f)
  reply_are (Lectures ls) short f = (is_solid (codes "lectures") refl, (count_word (length ls) short, lectures_are ls f))
  reply_are (Costs c) short f = (is_solid (codes "costs") refl, (amount_word c.capacity f.0, (amount_word c.days f.1, (amount_word c.compactness f.2, (amount_word c.stability f.3, tt)))))
  reply_are (Priced p) short f = (is_solid (codes "price") refl, (price_word p f, tt))
  reply_are (AreMissing xs) short f = (is_solid (codes "missing") refl, (count_word (length xs) short, shortfalls_are xs f))
  reply_are (AreCheapest xs) short f = (is_solid (codes "prices") refl, (count_word (length xs) short, priced_are xs f))
  reply_are (AreOffers xs) short f = (is_solid (codes "slots") refl, (count_word (length xs) short, offers_are xs f))

  -- no call and no reply is without words
  some_edit : (e : Edit) → edit_words i e ≡ [] → ⊥
  some_edit (Place c s r) h = cc
  some_edit (Move c s s2 r) h = cc
  some_edit (Swap c s d s2) h = cc
  some_edit (Reroom c s r) h = cc
  some_edit (Drop c s) h = cc

  some_look : (l : Look) → look_words i l ≡ [] → ⊥
  some_look (Course c) h = cc
  some_look (Slot s) h = cc
  some_look (Teacher t) h = cc
  some_look (Curriculum q) h = cc
  some_look (CourseCost c) h = cc
  some_look Cost h = cc
  some_look (Price e) h = cc
  some_look Missing h = cc
  some_look (Cheapest n p) h = cc
  some_look (Slots p) h = cc

  some_reply : (t : Reply) → reply_words i t ≡ [] → ⊥
  some_reply Done h = cc
  some_reply (Refused x) h = cc
  some_reply (Lectures ls) h = cc
  some_reply (Costs c) h = cc
  some_reply (Priced p) h = cc
  some_reply (AreMissing xs) h = cc
  some_reply (AreCheapest xs) h = cc
  some_reply (AreOffers xs) h = cc

  -- the words of a line that is a call or a reply
  pub call_line : (c : Call) → CallFits i c → (rest : List ℕ) → words (line (call_words i c) ++ rest) ≡ call_words i c ++ words rest
  call_line (Edits e) f rest = any_line (edit_words i e) rest (some_edit e) (edit_are e f)
  call_line (Looks l) f rest = any_line (look_words i l) rest (some_look l) (look_are l f)

  pub reply_line : (t : Reply) → IsShortReply t → ReplyFits i t → (rest : List ℕ) → words (line (reply_words i t) ++ rest) ≡ reply_words i t ++ words rest
  reply_line t short f rest = any_line (reply_words i t) rest (some_reply t) (reply_are t short f)

  asked_part : (s : Asked) → IsAsked i s → (rest : List ℕ) → words (asked_text i s ++ rest) ≡ asked_words i s ++ words rest
  asked_part s f rest = two_words (line (call_words i s.call)) (line (reply_words i s.reply)) (call_words i s.call) (reply_words i s.reply) rest (call_line s.call f.0.0) (reply_line s.reply f.1 f.0.1)

  asked_are : (ss : List Asked) → Each (AskedFits i) ss → Each (λ s. IsShortReply s.reply) ss → Each (IsAsked i) ss
  asked_are [] f short = tt
  asked_are (s ∷ ss) f short = ((f.0, short.0), asked_are ss f.1 short.1)

  pub entry_part : (e : JournalEntry) → CanBeWritten i e → (rest : List ℕ) → words (entry_text i e ++ rest) ≡ entry_words i e ++ words rest
  unfolding is_blank solid
  entry_part e f rest =
      let head : List (List ℕ) = codes "entry" ∷ decimal e.planner ∷ decimal (length e.asked) ∷ [] in
      two_words (line head) (flat_map (asked_text i) e.asked) head (flat_map (asked_words i) e.asked) rest
      (λ r. line_words (codes "entry") (decimal e.planner ∷ decimal (length e.asked) ∷ []) r (is_solid (codes "entry") refl, (count_word e.planner (omega (arith, f.0.0)), (count_word (length e.asked) f.1.0, tt))))
      (λ r. parts_words (IsAsked i) (asked_text i) (asked_words i) asked_part e.asked (asked_are e.asked f.0.1 f.1.1) r)

  entries_are : (es : List JournalEntry) → Each (EntryFits i) es → Each IsShort es → Each (CanBeWritten i) es
  entries_are [] f short = tt
  entries_are (e ∷ es) f short = ((f.0, short.0), entries_are es f.1 short.1)

  -- the words of the text of a journal, whatever follows it
  pub journal_part : (es : List JournalEntry) → AreFew es → Each (EntryFits i) es → Each IsShort es → (rest : List ℕ) → words (journal_text i es ++ rest) ≡ journal_words i es ++ words rest
  unfolding is_blank solid
  journal_part es few f short rest =
      let head : List (List ℕ) = codes "journal" ∷ decimal (length es) ∷ [] in
      let end : List (List ℕ) = codes "END." ∷ [] in
      two_words (line head) (flat_map (entry_text i) es ++ line end) head (flat_map (entry_words i) es ++ end) rest
      (λ r. line_words (codes "journal") (decimal (length es) ∷ []) r (is_solid (codes "journal") refl, (count_word (length es) few, tt)))
      (λ r. two_words (flat_map (entry_text i) es) (line end) (flat_map (entry_words i) es) end r
      (λ q. parts_words (CanBeWritten i) (entry_text i) (entry_words i) entry_part es (entries_are es f short) q)
      (λ q. line_words (codes "END.") [] q (is_solid (codes "END.") refl, tt)))

  -- parsing what is written returns the same entries, whatever follows it
  pub written_spells : (es : List JournalEntry) → AreFew es → Each (EntryFits i) es → Each IsShort es → (rest : List ℕ) → JournalSpells i (words (journal_text i es ++ rest)) es
  written_spells es few f short rest = record {
    front = journal_words i es;
    rest = words rest;
    all = journal_part es few f short rest;
    fills = journal_fills i is named es few f short;
  }
