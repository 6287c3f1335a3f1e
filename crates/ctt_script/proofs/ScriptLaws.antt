-- Lines of a script, and their events.
use Rattle.std.proofs.Common.{◌≡◌, ℕ, ◌+◌, ◌-◌, ◌<◌, map, filter, ◌==◌, List, [], ◌∷◌, ◌++◌, length, take, drop, position, arith, Bool, true, false, cond, Option, Some, None, Result, Ok, Err, refl, sym, ap, subst, ◌∙◌}
use Rattle.std.specs.Str.{IsUtf8, is_utf8}
use Rattle.std.proofs.lemmas.List.{append-nil}
use Rattle.std.proofs.lemmas.Str.{IsUtf8-from_is_utf8, is_utf8-from_IsUtf8}
use Rattle.std.proofs.lemmas.Grind.{common_steps}
use Rattle.std.specs.Prelude.{slice_index, OnSome}
use Rattle.std.specs.List.{position_or_len}
use Rattle.std.proofs.lemmas.List.Quantifiers.{position-Some}
use Rattle.std.proofs.lemmas.List.Sums.{fails_before_first, position_or_len_is}
use Rattle.memchr.specs.Find.{IsFirstByte, is_byte}
use Rattle.std.proofs.lemmas.List.Splits.{slice_split_first, slice_split_none}
use Rattle.ctt_problem.proofs.ListLaws.{position_is, position_none}
use Rattle.ctt_text.specs.Words.{words}
use Rattle.ctt_text.specs.Left.{Left}
use Rattle.ctt_problem.specs.Problem.{Problem}
use Rattle.ctt_text.specs.Forms.{Form, Fills, ◌>>=◌, read}
use Rattle.ctt_text.specs.Places.{one, known}
use Rattle.ctt_text.proofs.FormLaws.{read_fills}
use Rattle.ctt_script.specs.declared.journal_fault.JournalFault.{JournalFault}
use Rattle.ctt_core.specs.declared.event.Event.{Event}
use Rattle.ctt_script.specs.JournalWords.{missing_word, parses}
use Rattle.ctt_script.specs.Events.{event_form, own_form}
use Rattle.ctt_script.specs.ScriptText.{all_parsed, whole_or_word, or_left, if_none_left, asked_by, item_by, item, own_item, has_words, lines_of, items_of}

-- what was parsed to the end has nothing left
abbrev IsWhole : {A : Type 0} → A → Result (A × Left) JournalFault → Type 0
IsWhole {A} a r = (left : Left) × (r ≡ Ok (a, left)) × (left.words ≡ [])

whole_by : {A : Type 0} (a b : A) (left : Left) (ws : List (List ℕ)) → left.words ≡ ws → if_none_left b ws ≡ Some a → IsWhole a (Ok (b, left))
whole_by a b left [] e h =
    let same : b ≡ a = cc in
    (left, ap (λ q. Ok (q, left)) same, e)
whole_by a b left (w ∷ ws) e h = cc

whole_is : {A : Type 0} (a : A) (r : Result (A × Left) JournalFault) → all_parsed r ≡ Some a → IsWhole a r
whole_is a (Ok x) h = whole_by a x.0 x.1 x.1.words refl h
whole_is a (Err e) h = cc

or_left_is : {A : Type 0} (a b : A) (ws : List (List ℕ)) (n : ℕ) → or_left b ws n ≡ Ok a → if_none_left b ws ≡ Some a
or_left_is a b [] n h = let same : b ≡ a = cc in ap Some same
or_left_is a b (w ∷ ws) n h = cc

-- a full parse is the same with the number of the first word that is not allowed and without
pub word_or_none : {A : Type 0} (a : A) (r : Result (A × Left) JournalFault) → whole_or_word r ≡ Ok a → all_parsed r ≡ Some a
word_or_none a (Ok x) h = or_left_is a x.0 x.1.words x.1.next h
word_or_none a (Err e) h = cc

-- words are an event if and only if they match the grammar with it
pub asked_fills : (form : Form JournalFault Event) (ws : List (List ℕ)) (e : Event) → asked_by form ws ≡ Some e → Fills form ws e
asked_fills form ws e h =
    let w = whole_is e (read missing_word form ws 1) h in
    let r = read_fills missing_word form ws 1 (e, w.0) w.1 in
    subst (λ q. Fills form q e) (sym (r.all ∙ ap (λ q. r.front ++ q) w.2 ∙ append-nil r.front)) r.fills

-- the event of a line matches the grammar
pub item_fills : (form : Form JournalFault Event) (line : List ℕ) (e : Event) → item_by form line ≡ Some e → Fills form (words line) e
item_fills form line e h = by (is_utf8 line) h
  where
    by : (b : Bool) → cond b (asked_by form (words line)) None ≡ Some e → Fills form (words line) e
    by true k = asked_fills form (words line) e k
    by false k = cc

-- a line that is not UTF-8 is bad
pub bad_text : (form : Form JournalFault Event) (line : List ℕ) → ¬ IsUtf8 line → None ≡ item_by form line
bad_text form line not = by (is_utf8 line) refl
  where
    by : (b : Bool) → is_utf8 line ≡ b → None ≡ cond b (asked_by form (words line)) None
    by true e = absurd (not (IsUtf8-from_is_utf8 line e))
    by false e = refl

-- a UTF-8 line is the event of its words
pub text_asks : (form : Form JournalFault Event) (line text : List ℕ) (left : Left) (o : Option Event) → IsUtf8 line → text ≡ line → left ≡ record { words = words text; next = 1 } → o ≡ all_parsed (parses form left) → o ≡ item_by form line
text_asks form line text left o utf8 same all is =
    let start : left ≡ record { words = words line; next = 1 } = all ∙ ap (λ bs. record { words = words bs; next = 1 }) same in
    rw (is_utf8-from_IsUtf8 line utf8) (is ∙ ap (λ l. all_parsed (parses form l)) start)

-- a line that is an event has words, if the empty list of words is not an event
asks_words : (form : Form JournalFault Event) → asked_by form [] ≡ None → (line : List ℕ) (e : Event) → item_by form line ≡ Some e → has_words line ≡ true
asks_words form none line e h = by (words line) refl (is_utf8 line) h
  where
    by : (ws : List (List ℕ)) → words line ≡ ws → (b : Bool) → cond b (asked_by form (words line)) None ≡ Some e → has_words line ≡ true
    by [] is true k = let no : None ≡ Some e = sym none ∙ ap (asked_by form) (sym is) ∙ k in cc
    by [] is false k = cc
    by (w ∷ ws) is b k = rw is refl

no_event : (i : Problem) → asked_by (event_form i) [] ≡ None
unfolding event_form known one ◌>>=◌ read
no_event i = refl

no_own_event : (i : Problem) (p : ℕ) → asked_by (own_form i p) [] ≡ None
unfolding own_form known one ◌>>=◌ read
no_own_event i p = refl

pub item_has_words : (i : Problem) (line : List ℕ) (o : Option Event) → o ≡ item i line → OnSome o (has_words line ≡ true)
item_has_words i line None h = tt
item_has_words i line (Some e) h = asks_words (event_form i) (no_event i) line e (sym h)

pub own_item_has_words : (i : Problem) (p : ℕ) (line : List ℕ) (o : Option Event) → o ≡ own_item i p line → OnSome o (has_words line ≡ true)
own_item_has_words i p line None h = tt
own_item_has_words i p line (Some e) h = asks_words (own_form i p) (no_own_event i p) line e (sym h)

-- a search for a byte finds its first index
pub first_byte_is : (a : ℕ) (text : List ℕ) (r : Option ℕ) → IsFirstByte (is_byte a) text r → r ≡ position (λ b. b == a) text
first_byte_is a text r h = by r (position is_a text) h refl
  where
    is_a : ℕ → Bool
    is_a b = b == a

    fails : (b : Bool) → ¬ (b ≡ true) → b ≡ false
    fails true h = absurd (h refl)
    fails false h = refl

    by : (r o : Option ℕ) → IsFirstByte (is_byte a) text r → position is_a text ≡ o → r ≡ o
    by None None h e = refl
    by None (Some k) h e =
        let at = position-Some is_a text k 0 e in
        absurd (h k (omega arith) at.0 at.1)
    by (Some k) None h e =
        let len = position_none is_a text e in
        let at : position_or_len is_a text ≡ k = position_or_len_is is_a text k 0 (omega (arith, h.0.high)) (λ j lt. fails (is_a (slice_index text j)) (h.0.before j (omega arith) lt)) (λ _. h.1) in
        absurd (omega (arith, len, at, h.0.high))
    by (Some k) (Some j) h e =
        let first = position_is is_a text j e in
        let at : position_or_len is_a text ≡ k = position_or_len_is is_a text k 0 (omega (arith, h.0.high)) (λ i lt. fails (is_a (slice_index text i)) (h.0.before i (omega arith) lt)) (λ _. h.1) in
        ap Some (sym (first.0 ∙ at))

-- the lines of a text, by the index of its first newline
abbrev ends_line : ℕ → Bool
ends_line b = b == 10

pub first_line : (text : List ℕ) (end : ℕ) → position (λ b. b == 10) text ≡ Some end → lines_of text ≡ take end text ∷ lines_of (drop (end + 1) text)
first_line text end h =
    let at = position_is ends_line text end h in
    rw at.0 (slice_split_first ends_line text 0 (subst (λ n. n < length text) at.0 at.1))

-- the same if what is left is a slice up to the end
pub first_line_cut : (text : List ℕ) (end : ℕ) → position (λ b. b == 10) text ≡ Some end → lines_of text ≡ take end text ∷ lines_of (take (length text - (end + 1)) (drop (end + 1) text))
first_line_cut text end h =
    let all : take (length text - (end + 1)) (drop (end + 1) text) ≡ drop (end + 1) text = grind (arith, common_steps) in
    first_line text end h ∙ ap (λ bs. take end text ∷ lines_of bs) (sym all)

-- the items of one line and those after it
pub items_then : (i : Problem) (line : List ℕ) (lines : List (List ℕ)) → items_of i (line ∷ lines) ≡ items_of i (line ∷ []) ++ items_of i lines
items_then i line lines = by (has_words line)
  where
    by : (b : Bool) → map (item i) (cond b (line ∷ filter has_words lines) (filter has_words lines)) ≡ map (item i) (cond b (line ∷ []) []) ++ map (item i) (filter has_words lines)
    by true = refl
    by false = refl

pub only_line : (text : List ℕ) → position (λ b. b == 10) text ≡ None → lines_of text ≡ text ∷ []
only_line text h =
    let none = position_none ends_line text h in
    slice_split_none ends_line text (λ k e m. let at = fails_before_first ends_line text k e in grind (arith, common_steps, none, at))

pub ruleset first_or_only = (first_line, only_line)
