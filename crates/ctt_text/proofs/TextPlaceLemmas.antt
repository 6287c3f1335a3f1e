-- The words of a text, one after another, and where they begin.
use Rattle.std.proofs.Common.{◌≡◌, ◌∙◌, ◌⊎◌, inl, inr, ℕ, zero, suc, ◌+◌, ◌-◌, ◌<◌, ◌≤◌, Bool, true, false, not, ◌&&◌, nat_le, nat_lt, List, [], ◌∷◌, length, drop, take, get_or, position, slice_index_or, Some, None, refl, sym, ap, subst, arith, length-drop}
use Rattle.std.specs.List.{position_or_len}
use Rattle.std.proofs.Math.Seq.{drop-cons}
use Rattle.std.proofs.lemmas.Bool.{cases_lt, le-leb, lt-leb}
use Rattle.std.proofs.lemmas.Grind.{common_steps}
use Rattle.std.proofs.lemmas.List.{drop-drop, drop_all, get_or-drop, get_or-take, length-take-le}
use Rattle.std.proofs.lemmas.List.Sums.{fails_before_first, passes_at_first}
use Rattle.ctt_problem.specs.Named.{is_blank}
use Rattle.ctt_problem.proofs.ListLaws.{position_is}
use Rattle.ctt_problem.proofs.TimetableLemmas.{Each-at}
use Rattle.ctt_text.specs.Words.{IsFirstWord, begins_word, grow, words}
use Rattle.ctt_text.specs.TextPlaces.{HasNoWord, IsWordAt, before_word, bytes_before, has_at_most, through_words}
use Rattle.ctt_text.proofs.NamedLaws.{first_is_word}
use Rattle.ctt_text.proofs.WordLemmas.{first_word_at, stands, words_after_blanks, words_of_blanks}

and_false : (a : Bool) → (a && false) ≡ false
and_false true = refl
and_false false = refl

-- a list that has an element after its first n
next_is : {X : Type 0} (xs : List X) (n : ℕ) (x : X) (rest : List X) → drop n xs ≡ x ∷ rest → (drop (n + 1) xs ≡ rest) × (n < length xs)
next_is xs n x rest is =
    let some : length (drop n xs) ≡ length (x ∷ rest) = ap length is in
    (sym (drop-drop 1 n xs) ∙ ap (drop 1) is, omega (arith, some, length-drop n xs))

none_is : {X : Type 0} (xs : List X) (n : ℕ) → drop n xs ≡ [] → length xs ≤ n
none_is xs n is =
    let none : length (drop n xs) ≡ 0 = ap length is in
    omega (arith, none, length-drop n xs)

-- the first word of what is left after n words is the next one
pub next_word : (text : List ℕ) (at n start end : ℕ) → at ≤ length text → words (drop at text) ≡ drop n (words text) → IsFirstWord (drop at text) start end
    → (words (drop (at + end) text) ≡ drop (n + 1) (words text)) × (at + end ≤ length text) × (n + 1 ≤ length (words text))
next_word text at n start end short left first =
    let next = next_is (words text) n _ _ (sym left ∙ first.first) in
    let within : at + end ≤ length text = omega (arith, first.within, length-drop at text, short) in
    let counted : n + 1 ≤ length (words text) = omega (arith, next.1) in
    (ap words (sym (drop-drop end at text)) ∙ sym next.0, within, counted)

-- the word after the first n - 1
pub word_is_at : (text : List ℕ) (at n start end : ℕ) → 0 < n → at ≤ length text → words (drop at text) ≡ drop (n - 1) (words text) → IsFirstWord (drop at text) start end → IsWordAt text n (at + start) (at + end)
word_is_at text at n start end counted short left first =
    let len : at + end - (at + start) ≡ end - start = omega arith in
    record {
      counted = counted;
      within = (omega (arith, first.some), omega (arith, first.within, length-drop at text, short));
      from_it = sym left ∙ first.first ∙ rw (len, drop-drop start at text, drop-drop end at text) refl;
    }

-- there are too few words
pub too_few : (text : List ℕ) (at n : ℕ) → 0 < n → words (drop at text) ≡ drop (n - 1) (words text) → words (drop at text) ≡ [] → HasNoWord text n
too_few text at n counted left none =
    let few : length (words text) ≤ n - 1 = none_is (words text) (n - 1) (sym left ∙ none) in
    inr (omega (arith, few, counted))

-- ---- the bytes before an ending

-- the bytes before the first ending that passes
pub before_first : (passes : List ℕ → Bool) (text : List ℕ) (at : ℕ) → at ≤ length text → (at < length text → passes (drop at text) ≡ true) → ((j : ℕ) → j < at → passes (drop j text) ≡ false) → take at text ≡ bytes_before passes text
unfolding bytes_before
before_first passes [] zero short first none = refl
before_first passes [] (suc at) short first none = absurd (omega (arith, short))
before_first passes (b ∷ bs) zero short first none = let here = first (omega arith) in rw here refl
before_first passes (b ∷ bs) (suc at) short first none =
    let here : passes (b ∷ bs) ≡ false = none 0 (omega arith) in
    rw here (ap (λ rest. b ∷ rest) (before_first passes bs at (omega (arith, short)) (λ less. first (omega (arith, less))) (λ j less. none (suc j) (omega (arith, less)))))

if_passes : (passes : List ℕ → Bool) (b : ℕ) (bs : List ℕ) → passes (b ∷ bs) ≡ true → bytes_before passes (b ∷ bs) ≡ []
unfolding bytes_before
if_passes passes b bs here = rw here refl

if_fails : (passes : List ℕ → Bool) (b : ℕ) (bs : List ℕ) → passes (b ∷ bs) ≡ false → bytes_before passes (b ∷ bs) ≡ b ∷ bytes_before passes bs
unfolding bytes_before
if_fails passes b bs here = rw here refl

-- no longer ending passes
before_fails : (passes : List ℕ → Bool) (text : List ℕ) (at j : ℕ) → take at text ≡ bytes_before passes text → at ≤ length text → j < at → passes (drop j text) ≡ false
before_fails passes [] at j is short less = absurd (omega (arith, short, less))
before_fails passes (b ∷ bs) zero j is short less = absurd (omega (arith, less))
before_fails passes (b ∷ bs) (suc at) j is short less = by (λ k same lt. before_fails passes bs at k same (omega (arith, short)) lt) (passes (b ∷ bs)) refl j less
  where
    by : ((k : ℕ) → take at bs ≡ bytes_before passes bs → k < at → passes (drop k bs) ≡ false) → (x : Bool) → passes (b ∷ bs) ≡ x → (k : ℕ) → k < suc at → passes (drop k (b ∷ bs)) ≡ false
    by later true e k lt = let none : b ∷ take at bs ≡ [] = is ∙ if_passes passes b bs e in cc
    by later false e zero lt = e
    by later false e (suc k) lt = let rest : b ∷ take at bs ≡ b ∷ bytes_before passes bs = is ∙ if_fails passes b bs e in later k (ap (λ xs. drop 1 xs) rest) (omega (arith, lt))

-- ---- how many words an ending has

grown : (b : ℕ) (begins : Bool) (ws : List (List ℕ)) → length ws ≤ length (grow b begins ws)
grown b true [] = omega arith
grown b true (w ∷ ws) = omega arith
grown b false ws = omega arith

without_one : (b : ℕ) (bs : List ℕ) → length (words bs) ≤ length (words (b ∷ bs))
unfolding words
without_one b bs = by (is_blank b) refl
  where
    by : (x : Bool) → is_blank b ≡ x → length (words bs) ≤ length (words (b ∷ bs))
    by true e = rw e (omega arith)
    by false e = rw e (grown b (begins_word bs) (words bs))

without_more : (text : List ℕ) (j : ℕ) → length (words (drop j text)) ≤ length (words text)
without_more [] j = let none : drop j (empty) ≡ empty = drop_all {X = ℕ} j empty (omega arith) in rw none (omega arith)
  where
    empty : List ℕ
    empty = []
without_more (b ∷ bs) zero = omega arith
without_more (b ∷ bs) (suc j) = omega (arith, without_more bs j, without_one b bs)

-- a shorter ending has no more words
pub fewer_later : (text : List ℕ) (j k : ℕ) → j ≤ k → length (words (drop k text)) ≤ length (words (drop j text))
fewer_later text j k le =
    let more : j + (k - j) ≡ k = omega (arith, le) in
    let rest = without_more (drop j text) (k - j) in
    rw (drop-drop (k - j) j text, more) at rest

-- a byte of a word, with the next one not of it, is a word more
one_word_more : (b : ℕ) (bs : List ℕ) → is_blank b ≡ false → begins_word bs ≡ false → length (words bs) < length (words (b ∷ bs))
unfolding words
one_word_more b bs solid stops = rw (solid, stops) (omega arith)

stops_after : (bs : List ℕ) (start end : ℕ) → IsFirstWord bs start end → begins_word (drop end bs) ≡ false
stops_after bs start end at = by (drop end bs) refl
  where
    by : (rest : List ℕ) → drop end bs ≡ rest → begins_word rest ≡ false
    by [] e = refl
    by (b ∷ rest) e =
        let some : length (drop end bs) ≡ length (b ∷ rest) = ap length e in
        let less : end < length bs = omega (arith, some, length-drop end bs) in
        let same : b ∷ rest ≡ get_or bs end 0 ∷ drop (suc end) bs = sym e ∙ drop-cons bs end 0 less in
        let blank = at.after less in
        grind (arith, common_steps, same, blank)

-- a word ends with its last byte: an ending that begins before has more words
pub more_before : (bs : List ℕ) (start end i : ℕ) → IsFirstWord bs start end → i < end → length (words (drop end bs)) < length (words (drop i bs))
more_before bs start end i at less =
    let last : ℕ = end - 1 in
    let some = at.some in
    let within = at.within in
    let solid : is_blank (get_or bs last 0) ≡ false = last_solid bs start end at in
    let next : suc last ≡ end = omega (arith, some) in
    let cut : drop last bs ≡ get_or bs last 0 ∷ drop (suc last) bs = drop-cons bs last 0 (omega (arith, some, within)) in
    let one = one_word_more (get_or bs last 0) (drop (suc last) bs) solid (rw next (stops_after bs start end at)) in
    let here : length (words (drop (suc last) bs)) < length (words (drop last bs)) = rw cut one in
    let earlier = fewer_later bs i last (omega (arith, less)) in
    let same : length (words (drop (suc last) bs)) ≡ length (words (drop end bs)) = rw next refl in
    omega (arith, here, earlier, same)
  where
    last_solid : (bs : List ℕ) (start end : ℕ) → IsFirstWord bs start end → is_blank (get_or bs (end - 1) 0) ≡ false
    last_solid bs start end at =
        let word = first_is_word bs start end at in
        let some = at.some in
        let within = at.within in
        let size : length (take (end - start) (drop start bs)) ≡ end - start = length-take-le (end - start) (drop start bs) (omega (arith, within, length-drop start bs)) in
        let solid = Each-at (λ b. is_blank b ≡ false) (take (end - start) (drop start bs)) word.1 (end - start - 1) 0 (omega (arith, size, some)) in
        let place : start + (end - start - 1) ≡ end - 1 = omega (arith, some) in
        let same : get_or (take (end - start) (drop start bs)) (end - start - 1) 0 ≡ get_or bs (end - 1) 0 =
        get_or-take (end - start) (drop start bs) (end - start - 1) 0 (omega (arith, some)) ∙ get_or-drop start bs (end - start - 1) 0 ∙ ap (λ k. get_or bs k 0) place in
        sym (ap is_blank same) ∙ solid

-- ---- the first words of a text

-- the end of so many words, before which an ending has more words
pub record EndsWords (text : List ℕ) (end n : ℕ) : Type 0 where
  pub rest : words (drop end text) ≡ drop n (words text)
  pub within : end ≤ length text
  pub counted : n ≤ length (words text)
  pub least : (j : ℕ) → j < end → length (words (drop end text)) < length (words (drop j text))

pub no_words_end : (text : List ℕ) → EndsWords text 0 0
no_words_end text = record {
  rest = refl;
  within = omega arith;
  counted = omega arith;
  least = λ j less. absurd (omega (arith, less));
}

pub one_more_ends : (text : List ℕ) (at n start end : ℕ) → EndsWords text at n → IsFirstWord (drop at text) start end → EndsWords text (at + end) (n + 1)
one_more_ends text at n start end ends first =
    let next = next_word text at n start end ends.within ends.rest first in
    let same : drop end (drop at text) ≡ drop (at + end) text = drop-drop end at text in
    record {
      rest = next.0;
      within = next.1;
      counted = next.2;
      least = λ j less. by j less (cases_lt j at);
    }
  where
    by : (j : ℕ) → j < at + end → ◌⊎◌ (j < at) (at ≤ j) → length (words (drop (at + end) text)) < length (words (drop j text))
    by j less (inl lt) =
        let before = ends.least j lt in
        let later = fewer_later text at (at + end) (omega arith) in
        omega (arith, before, later)
    by j less (inr ge) =
        let place : at + (j - at) ≡ j = omega (arith, ge) in
        let more = more_before (drop at text) start end (j - at) first (omega (arith, less, ge)) in
        rw (drop-drop end at text, drop-drop (j - at) at text, place) at more

-- the bytes up to there, if so many words are asked for, or more than there are
pub through_is : (text : List ℕ) (end n count : ℕ) → EndsWords text end n → ◌⊎◌ (n ≡ count) ((n < count) × (words (drop end text) ≡ [])) → take end text ≡ through_words count text
through_is text end n count ends asked = before_first (has_at_most (length (words text) - count)) text end ends.within
    (λ _. le-leb (length (words (drop end text))) (length (words text) - count) (few asked))
    (λ j less. lt-leb (length (words (drop j text))) (length (words text) - count) (many j less asked))
  where
    left : length (words (drop end text)) ≡ length (words text) - n
    left = ap length ends.rest ∙ length-drop n (words text)

    few : ◌⊎◌ (n ≡ count) ((n < count) × (words (drop end text) ≡ [])) → length (words (drop end text)) ≤ length (words text) - count
    few (inl same) = omega (arith, left, same)
    few (inr none) = let size : length (words (drop end text)) ≡ 0 = ap length none.1 in omega (arith, size)

    many : (j : ℕ) → j < end → ◌⊎◌ (n ≡ count) ((n < count) × (words (drop end text) ≡ [])) → length (words text) - count < length (words (drop j text))
    many j less (inl same) = let more = ends.least j less in omega (arith, left, same, more)
    many j less (inr none) =
        let size : length (words (drop end text)) ≡ 0 = ap length none.1 in
        let more = ends.least j less in
        omega (arith, left, size, more, none.0, ends.counted)

-- no word is left after more words than there are
pub none_after : (text : List ℕ) (end n count : ℕ) → EndsWords text end n → n ≤ count → words (drop end text) ≡ [] → words (drop end text) ≡ drop count (words text)
none_after text end n count ends less none =
    let few : length (words text) ≤ n = none_is (words text) n (sym ends.rest ∙ none) in
    none ∙ sym (drop_all count (words text) (omega (arith, few, less)))

-- ---- where a word begins

blanks_before : (rest : List ℕ) (start i : ℕ) → position stands rest ≡ Some start → i < start → begins_word (drop i rest) ≡ false
blanks_before rest start i found less =
    let at = position_is stands rest start found in
    let blank : stands (get_or rest i 0) ≡ false = fails_before_first stands rest i 0 (omega (arith, at.0, less)) in
    let cut : drop i rest ≡ get_or rest i 0 ∷ drop (suc i) rest = drop-cons rest i 0 (omega (arith, less, at.1)) in
    rw cut blank

begins_where_found : (rest : List ℕ) (start : ℕ) → position stands rest ≡ Some start → begins_word (drop start rest) ≡ true
begins_where_found rest start found =
    let at = position_is stands rest start found in
    let cut : drop start rest ≡ get_or rest start 0 ∷ drop (suc start) rest = drop-cons rest start 0 at.1 in
    let passes : stands (get_or rest start 0) ≡ true = grind (arith, common_steps, at.0, at.1, passes_at_first stands rest 0) in
    rw cut passes

pub word_begins : (text : List ℕ) (at n start : ℕ) → at ≤ length text → words (drop at text) ≡ drop (n - 1) (words text) → take at text ≡ through_words (n - 1) text → position stands (drop at text) ≡ Some start
    → take (at + start) text ≡ before_word n text
word_begins text at n start short rest front found =
    let total : ℕ = length (words text) in
    let first = first_word_at (drop at text) start found in
    let begun = position_is stands (drop at text) start found in
    let left : length (words (drop at text)) ≡ total - (n - 1) = ap length rest ∙ length-drop (n - 1) (words text) in
    let size : length (words (drop at text)) ≡ suc (length (words (drop (start + position_or_len is_blank (drop start (drop at text))) (drop at text)))) = ap length first.first in
    let some : nat_lt (n - 1) total ≡ true = le-leb (suc (n - 1)) total (omega (arith, left, size)) in
    let here : drop (at + start) text ≡ drop start (drop at text) = sym (drop-drop start at text) in
    let same : words (drop start (drop at text)) ≡ words (drop at text) = ap (λ i. words (drop i (drop at text))) begun.0 ∙ sym (words_after_blanks (drop at text)) in
    let within : at + start ≤ length text = omega (arith, begun.1, length-drop at text, short) in
    let begins : begins_word (drop (at + start) text) ≡ true = rw here (begins_where_found (drop at text) start found) in
    let few : has_at_most (total - (n - 1)) (drop (at + start) text) ≡ true = rw here (le-leb (length (words (drop start (drop at text)))) (total - (n - 1)) (omega (arith, left, ap length same))) in
    rw some (before_first (λ ending. begins_word ending && has_at_most (total - (n - 1)) ending) text (at + start) within
    (λ _. rw (begins, few) refl) (λ j less. by j less (cases_lt j at)))
  where
    by : (j : ℕ) → j < at + start → ◌⊎◌ (j < at) (at ≤ j) → (begins_word (drop j text) && has_at_most (length (words text) - (n - 1)) (drop j text)) ≡ false
    by j less (inl lt) =
        let many : has_at_most (length (words text) - (n - 1)) (drop j text) ≡ false = before_fails (has_at_most (length (words text) - (n - 1))) text at j front short lt in
        rw many (and_false (begins_word (drop j text)))
    by j less (inr ge) =
        let place : at + (j - at) ≡ j = omega (arith, ge) in
        let blank = blanks_before (drop at text) start (j - at) found (omega (arith, less, ge)) in
        let none : begins_word (drop j text) ≡ false = rw (drop-drop (j - at) at text, place) at blank in
        rw none refl

-- a word that is missing
pub word_misses : (text : List ℕ) (at n : ℕ) → words (drop at text) ≡ drop (n - 1) (words text) → take at text ≡ through_words (n - 1) text → position stands (drop at text) ≡ None → take at text ≡ before_word n text
word_misses text at n rest front none =
    let few : length (words text) ≤ n - 1 = none_is (words text) (n - 1) (sym rest ∙ words_of_blanks (drop at text) none) in
    let missing : nat_lt (n - 1) (length (words text)) ≡ false = lt-leb (suc (n - 1)) (length (words text)) (omega (arith, few)) in
    rw missing front

-- ---- the words that are left

pub one_left : {X : Type 0} (xs left rest : List X) (n : ℕ) (x : X) → left ≡ drop n xs → left ≡ x ∷ rest → rest ≡ drop (n + 1) xs
one_left xs left rest n x is step = sym (next_is xs n x rest (sym is ∙ step)).0

pub none_left : {X : Type 0} (xs left : List X) (n count : ℕ) → left ≡ drop n xs → left ≡ [] → n ≤ count → [] ≡ drop count xs
none_left xs left n count is none less =
    let few : length xs ≤ n = none_is xs n (sym is ∙ none) in
    sym (drop_all count xs (omega (arith, few, less)))

-- the word at a place, by what is left from there
pub word_there : (ws : List (List ℕ)) (k : ℕ) (w : List ℕ) (rest : List (List ℕ)) → drop k ws ≡ w ∷ rest → w ≡ slice_index_or ws k []
word_there [] zero w rest h = cc
word_there [] (suc k) w rest h = cc
word_there (v ∷ ws) zero w rest h = cc
word_there (v ∷ ws) (suc k) w rest h = word_there ws k w rest h

pub none_there : (ws : List (List ℕ)) (k : ℕ) → drop k ws ≡ [] → [] ≡ slice_index_or ws k []
none_there [] k h = refl
none_there (v ∷ ws) zero h = cc
none_there (v ∷ ws) (suc k) h = none_there ws k h
