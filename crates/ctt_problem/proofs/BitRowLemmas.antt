-- Rows of bits.
use Rattle.std.proofs.Common.{true≢false, zero-add, nat_lt, ◌≡◌, ◌≢◌, ℕ, zero, suc, ◌+◌, ◌-◌, ◌*◌, ◌/◌, ◌%◌, ◌^◌, ◌<◌, ◌≤◌, Bool, true, false, cond, ◌==◌, ◌&&◌, ◌||◌, ◌++◌, List, length, take, drop, get_or, refl, ◌∙◌, sym, ap, ap₂, subst, arith, w64, inl, inr}
use Rattle.std.specs.Prelude.{replicate, slice_set, bit_and, bit_or}
use Rattle.std.specs.List.{list_any}
use Rattle.std.specs.Int.{bit_at, bit_not, trailing_zeros}
use Rattle.std.proofs.lemmas.List.Folds.{list_any_at}
use Rattle.std.proofs.lemmas.Bool.{lt-ltb, cases_eq, cases_lt, cases_order, eq-eqb, ne_eqb}
use Rattle.std.proofs.lemmas.List.{get_or-take, get_or-drop, length-take, length-drop, length-append, length-set, length-take-le, take_at, drop_at, drop-take, length-replicate, get_or-replicate, get_or-set_other, get_or_past, ext_get_or}
use Rattle.std.proofs.lemmas.List.FromFn.{length-map-range_with_len, get_or-map-range_with_len}
use Rattle.std.proofs.lemmas.Grind.{get_or-set_at}
use Rattle.std.proofs.lemmas.Slice.{take-put_mid_below, drop-put_mid}
use Rattle.std.proofs.lemmas.Nat.{mod_below, div-mul-add, mod-mul-add}
use Rattle.std.proofs.lemmas.Nat.Bits.{bit_at-zero, bit_at-trailing_zeros, bit_at_set_same, bit_at_set_other, bit_at_clear_same, bit_at_clear_other}
use Rattle.std.proofs.Math.Nat.{mul-le-mul_right}
use Rattle.ctt_problem.specs.Marks.{is_marked}
use Rattle.ctt_problem.proofs.TableLemmas.{same_element, place_within, written}
use Rattle.ctt_problem.proofs.MarkLemmas.{none_marked, past_words, read_mark, one_changed}
use Rattle.ctt_problem.proofs.MarkLaws.{place_in_rows, Row, row_of}
use Rattle.ctt_problem.specs.BitRows.{BitTable, words_for, words_of, is_marked_in, marks_of, HasSize, IsBitTable, SetsMark, AddsMarks}

-- setting the bit of a number marks this number alone
pub marked_set : (words : List ℕ) (n number low w : ℕ) → number ≡ n / 64 → low ≡ n % 64 → number < length words → w ≡ get_or words number 0 → (k : ℕ) → is_marked (slice_set words number (bit_or w (1 * 2 ^ low % 2 ^ 64))) k ≡ cond (k == n) true (is_marked words k)
marked_set words n number low w en el within is =
    rw (en, el) (one_changed words n (bit_or w (1 * 2 ^ (n % 64) % 2 ^ 64)) true (omega (arith, within, en))
    (ap (λ b. b == 1) (bit_at_set_same w64 w (n % 64) (mod_below n 64 (omega arith))))
    (λ k small other. bit_at_set_other w64 w (n % 64) (mod_below n 64 (omega arith)) k other ∙ ap (λ v. bit_at v k) (is ∙ ap (λ m. get_or words m 0) en)))

pub marked_clear : (words : List ℕ) (n number low w : ℕ) → number ≡ n / 64 → low ≡ n % 64 → number < length words → w ≡ get_or words number 0 → (k : ℕ) → is_marked (slice_set words number (bit_and w (bit_not w64 (1 * 2 ^ low % 2 ^ 64)))) k ≡ cond (k == n) false (is_marked words k)
marked_clear words n number low w en el within is =
    rw (en, el) (one_changed words n (bit_and w (bit_not w64 (1 * 2 ^ (n % 64) % 2 ^ 64))) false (omega (arith, within, en))
    (ap (λ b. b == 1) (bit_at_clear_same w64 w (n % 64) (mod_below n 64 (omega arith))))
    (λ k small other. bit_at_clear_other w64 w (n % 64) (mod_below n 64 (omega arith)) k small other ∙ ap (λ v. bit_at v k) (is ∙ ap (λ m. get_or words m 0) en)))

abbrev pub rows_of : ℕ → ℕ → List ℕ → BitTable
rows_of rows width words = record { rows = rows; width = width; words = words }

-- the mark of a row is a mark of the words
in_row : (g : BitTable) (row n : ℕ) → n / 64 < words_for g.width → is_marked_in g row n ≡ is_marked g.words ((row * words_for g.width) * 64 + n)
unfolding is_marked_in is_marked
in_row g row n lt =
    let count = words_for g.width in
    let start = row * count in
    ap (λ w. bit_at w (n % 64) == 1) (get_or-take count (drop start g.words) (n / 64) 0 lt ∙ get_or-drop start g.words (n / 64) 0)
    ∙ ap₂ (λ k b. bit_at (get_or g.words k 0) b == 1) (word start n) (low start n)
  where
    word : (k n : ℕ) → k + n / 64 ≡ (k * 64 + n) / 64
    word k n = omega arith

    low : (k n : ℕ) → n % 64 ≡ (k * 64 + n) % 64
    low k n = omega arith

-- a row has no marks past its words
pub past_row : (g : BitTable) (row n : ℕ) → words_for g.width ≤ n / 64 → is_marked_in g row n ≡ false
unfolding is_marked_in
past_row g row n past = past_words (words_of g row) n (omega (arith, past, length-take (words_for g.width) (drop (row * words_for g.width) g.words)))

-- a bit of an earlier row differs from each bit of this row
before_row : (stride r row k column : ℕ) → k < stride * 64 → r < row → (r * stride) * 64 + k ≢ (row * stride) * 64 + column
before_row stride r row k column small less e = (let rows : suc r * stride ≤ row * stride = mul-le-mul_right stride less in omega (arith, rows, e, small))

same_bit : (stride r row k column : ℕ) → k < stride * 64 → column < stride * 64 → ((r * stride) * 64 + k == (row * stride) * 64 + column) ≡ (r == row && k == column)
same_bit stride r row k column small small' = elim (cases_order r row) [
  | inl same ↦ elim (cases_eq k column) [
    | inl too ↦ rw (eq-eqb ((r * stride) * 64 + k) ((row * stride) * 64 + column) (ap₂ (λ a b. (a * stride) * 64 + b) same too), eq-eqb r row same, eq-eqb k column too) refl
    | inr other ↦ (
        let start : r * stride ≡ row * stride = ap (λ x. x * stride) same in
        rw (ne_eqb ((r * stride) * 64 + k) ((row * stride) * 64 + column) (λ e. other (omega (arith, e, start))), eq-eqb r row same, ne_eqb k column other) refl)
  ]
  | inr (inl less) ↦ rw (ne_eqb ((r * stride) * 64 + k) ((row * stride) * 64 + column) (before_row stride r row k column small less), ne_eqb r row (λ e. omega (arith, e, less))) refl
  | inr (inr more) ↦ rw (ne_eqb ((r * stride) * 64 + k) ((row * stride) * 64 + column) (λ e. before_row stride row r column k small' more (sym e)), ne_eqb r row (λ e. omega (arith, e, more))) refl
]

-- another number is unchanged
unset : (value a m : Bool) → m ≡ false → cond (a && false) value m ≡ false
unset value true m e = e
unset value false m e = e

module _ (rows width row number : ℕ) (words : List ℕ) (less : row < rows) (lt : number < width) (are : IsBitTable (rows_of rows width words)) where
  pub there : row * words_for width + number / 64 < length words
  there =
      let all : suc row * words_for width ≤ rows * words_for width = mul-le-mul_right (words_for width) less in
      omega (arith, all, lt, are.size)

  sets : (value : Bool) (next : List ℕ) → ((k : ℕ) → is_marked next k ≡ cond (k == (row * words_for width) * 64 + number) value (is_marked words k)) → SetsMark (rows_of rows width words) (rows_of rows width next) row number value
  sets value next wrote = record { rows = refl; width = refl; marks = each }
    where
      each : (r n : ℕ) → is_marked_in (rows_of rows width next) r n ≡ cond (r == row && n == number) value (is_marked_in (rows_of rows width words) r n)
      each r n = elim (cases_lt (n / 64) (words_for width)) [
        | inl inside ↦ (
            in_row (rows_of rows width next) r n inside ∙ wrote ((r * words_for width) * 64 + n)
            ∙ ap₂ (λ b m. cond b value m) (same_bit (words_for width) r row n number (omega (arith, inside)) (omega (arith, lt))) (sym (in_row (rows_of rows width words) r n inside)))
        | inr beyond ↦ (
            let other : (n == number) ≡ false = ne_eqb n number (λ e. omega (arith, e, beyond, lt)) in
            past_row (rows_of rows width next) r n beyond ∙ sym (ap (λ b. cond (r == row && b) value (is_marked_in (rows_of rows width words) r n)) other ∙ unset value (r == row) (is_marked_in (rows_of rows width words) r n) (past_row (rows_of rows width words) r n beyond)))
      ]

  sets_are : (value : Bool) (next : List ℕ) → length next ≡ length words → SetsMark (rows_of rows width words) (rows_of rows width next) row number value → IsBitTable (rows_of rows width next)
  sets_are value next same set = record {
    few = are.few;
    size = same ∙ are.size;
    within = λ r n past.
        let other : (n == number) ≡ false = ne_eqb n number (λ e. omega (arith, e, past, lt)) in
        set.marks r n ∙ ap (λ b. cond (r == row && b) value (is_marked_in (rows_of rows width words) r n)) other ∙ unset value (r == row) (is_marked_in (rows_of rows width words) r n) (are.within r n past);
  }

  word : row * words_for width + number / 64 ≡ ((row * words_for width) * 64 + number) / 64
  word = omega arith

  low : number % 64 ≡ ((row * words_for width) * 64 + number) % 64
  low = omega arith

  -- the word of a number, looked up with an equal count of words per row and any default
  pub word_read : (count d w : ℕ) → count ≡ words_for width → w ≡ get_or words (row * count + number / 64) d → w ≡ get_or words (row * words_for width + number / 64) 0
  word_read count d w e is = subst (λ k. w ≡ get_or words (row * k + number / 64) 0) e (is ∙ same_element words (row * count + number / 64) d 0 (subst (λ k. row * k + number / 64 < length words) (sym e) there))

  pub mark_is : (w : ℕ) → w ≡ get_or words (row * words_for width + number / 64) 0 → (bit_and (w / 2 ^ (number % 64)) 1 == 1) ≡ is_marked_in (rows_of rows width words) row number
  mark_is w is =
      ap₂ (λ v b. bit_and (v / 2 ^ b) 1 == 1) (is ∙ ap (λ k. get_or words k 0) word) low ∙ read_mark words ((row * words_for width) * 64 + number)
      ∙ sym (in_row (rows_of rows width words) row number (omega (arith, lt)))

  pub mark_sets : (w : ℕ) → w ≡ get_or words (row * words_for width + number / 64) 0 → SetsMark (rows_of rows width words) (rows_of rows width (slice_set words (row * words_for width + number / 64) (bit_or w (1 * 2 ^ (number % 64) % 2 ^ 64)))) row number true
  mark_sets w is = sets true (slice_set words (row * words_for width + number / 64) (bit_or w (1 * 2 ^ (number % 64) % 2 ^ 64))) (marked_set words ((row * words_for width) * 64 + number) (row * words_for width + number / 64) (number % 64) w word low there is)

  pub unmark_sets : (w : ℕ) → w ≡ get_or words (row * words_for width + number / 64) 0 → SetsMark (rows_of rows width words) (rows_of rows width (slice_set words (row * words_for width + number / 64) (bit_and w (bit_not w64 (1 * 2 ^ (number % 64) % 2 ^ 64))))) row number false
  unmark_sets w is = sets false (slice_set words (row * words_for width + number / 64) (bit_and w (bit_not w64 (1 * 2 ^ (number % 64) % 2 ^ 64)))) (marked_clear words ((row * words_for width) * 64 + number) (row * words_for width + number / 64) (number % 64) w word low there is)

  pub mark_are : (w : ℕ) → w ≡ get_or words (row * words_for width + number / 64) 0 → IsBitTable (rows_of rows width (slice_set words (row * words_for width + number / 64) (bit_or w (1 * 2 ^ (number % 64) % 2 ^ 64))))
  mark_are w is = sets_are true _ (length-set words (row * words_for width + number / 64) (bit_or w (1 * 2 ^ (number % 64) % 2 ^ 64))) (mark_sets w is)

  pub unmark_are : (w : ℕ) → w ≡ get_or words (row * words_for width + number / 64) 0 → IsBitTable (rows_of rows width (slice_set words (row * words_for width + number / 64) (bit_and w (bit_not w64 (1 * 2 ^ (number % 64) % 2 ^ 64)))))
  unmark_are w is = sets_are false _ (length-set words (row * words_for width + number / 64) (bit_and w (bit_not w64 (1 * 2 ^ (number % 64) % 2 ^ 64)))) (unmark_sets w is)

-- the marks of all rows: their number, and the mark at each index
pub marks_length : (g : BitTable) → length (marks_of g) ≡ g.rows * g.width
unfolding marks_of
marks_length g = length-map-range_with_len (λ k. is_marked_in g (k / g.width) (k % g.width)) 0 (g.rows * g.width)

pub mark_at : (g : BitTable) (row n : ℕ) → row < g.rows → n < g.width → get_or (marks_of g) (row * g.width + n) false ≡ is_marked_in g row n
unfolding marks_of
mark_at g row n less lt =
    get_or-map-range_with_len (λ k. is_marked_in g (k / g.width) (k % g.width)) 0 (g.rows * g.width) (row * g.width + n) (row * g.width + n) false (place_within row n g.width g.rows less lt) (zero-add (row * g.width + n))
    ∙ ap₂ (is_marked_in g) (div-mul-add row g.width n lt) (mod-mul-add row g.width n lt)

-- the mark at an index, as an instance looks it up
pub mark_asked : (g : BitTable) (rows width row n : ℕ) → HasSize g rows width → row < rows → n < width → is_marked_in g row n ≡ (nat_lt n width && get_or (marks_of g) (row * width + n) false)
mark_asked g rows width row n size less lt = rw (lt-ltb n width lt, ← size.1) (sym (mark_at g row n (subst (λ m. row < m) (sym size.0) less) (subst (λ m. n < m) (sym size.1) lt)))

-- a list with the same marks is equal
marks_same : (g : BitTable) (marks : List Bool) → length marks ≡ g.rows * g.width → ((row n : ℕ) → row < g.rows → n < g.width → get_or marks (row * g.width + n) false ≡ is_marked_in g row n) → marks_of g ≡ marks
marks_same g marks size same = ext_get_or false (marks_of g) marks (marks_length g ∙ sym size) (λ k lt.
    let at : Row g.rows g.width k = row_of g.rows g.width k (subst (λ m. k < m) (marks_length g) lt) in
    subst (λ p. get_or (marks_of g) p false ≡ get_or marks p false) at.place (mark_at g at.row at.column at.row_below at.column_below ∙ sym (same at.row at.column at.row_below at.column_below)))

-- if nothing is marked
pub marks_none : (g : BitTable) (rows width : ℕ) → HasSize g rows width → ((row n : ℕ) → is_marked_in g row n ≡ false) → marks_of g ≡ replicate (rows * width) false
marks_none g rows width size none = rw (← size.0, ← size.1)
    (marks_same g (replicate (g.rows * g.width) false) (length-replicate (g.rows * g.width) false)
    (λ row n less lt. get_or-replicate (g.rows * g.width) (row * g.width + n) false false (place_within row n g.width g.rows less lt) ∙ sym (none row n)))

-- after one more number is marked
pub marks_set : (old new : BitTable) (rows width row n : ℕ) → HasSize old rows width → row < rows → n < width → SetsMark old new row n true → marks_of new ≡ slice_set (marks_of old) (row * width + n) true
marks_set old new rows width row n size less lt set =
    let place = row * width + n in
    let all : length (marks_of old) ≡ rows * width = marks_length old ∙ ap₂ (λ a b. a * b) size.0 size.1 in
    let wide : new.width ≡ width = set.width ∙ size.1 in
    marks_same new (slice_set (marks_of old) place true) (length-set (marks_of old) place true ∙ marks_length old ∙ ap₂ (λ a b. a * b) (sym set.rows) (sym set.width)) (λ r k r_less k_lt.
    let small : k < width = subst (λ m. k < m) wide k_lt in
    ap (λ w. get_or (slice_set (marks_of old) place true) (r * w + k) false) wide
    ∙ set_at (marks_of old) place (r * width + k) (subst (λ m. place < m) (sym all) (place_within row n width rows less lt))
    ∙ ap₂ (λ b m. cond b true m) (place_in_rows width r k row n small lt) (subst (λ w. get_or (marks_of old) (r * w + k) false ≡ is_marked_in old r k) size.1 (mark_at old r k (subst (λ m. r < m) set.rows r_less) (subst (λ m. k < m) set.width k_lt)))
    ∙ sym (set.marks r k))
  where
    set_at : (marks : List Bool) (p k : ℕ) → p < length marks → get_or (slice_set marks p true) k false ≡ cond (k == p) true (get_or marks k false)
    set_at marks p k within = elim (cases_eq k p) [
      | inl same ↦ rw (eq-eqb k p same) (get_or-set_at marks p k true false same within)
      | inr other ↦ rw (ne_eqb k p other) (get_or-set_other marks p k true false other)
    ]

-- there is a mark if a word has a bit
module _ (g : BitTable) (are : IsBitTable g) where
  pub some_marked : (p : ℕ) → p < length g.words → get_or g.words p 0 ≢ 0 → get_or g.words p 0 < 2 ^ 64 → list_any (λ b. b) (marks_of g) ≡ true
  unfolding is_marked
  some_marked p within some small =
      let count = words_for g.width in
      let at : Row g.rows count p = row_of g.rows count p (subst (λ m. p < m) are.size within) in
      let low = bit_at-trailing_zeros w64 (get_or g.words p 0) (omega (arith, some)) small in
      let bit = trailing_zeros w64 (get_or g.words p 0) in
      let n = at.column * 64 + bit in
      let word : n / 64 ≡ at.column = div-mul-add at.column 64 bit low.0 in
      let flat : (at.row * count) * 64 + n ≡ p * 64 + bit = omega (arith, at.place) in
      let marked : is_marked_in g at.row n ≡ true =
      in_row g at.row n (omega (arith, word, at.column_below)) ∙ ap (is_marked g.words) flat
      ∙ ap₂ (λ q b. bit_at (get_or g.words q 0) b == 1) (div-mul-add p 64 bit low.0) (mod-mul-add p 64 bit low.0) ∙ ap (λ b. b == 1) low.1 in
      elim (cases_lt n g.width) [
        | inl lt ↦ list_any_at (λ b. b) (marks_of g) (at.row * g.width + n) false (subst (λ m. at.row * g.width + n < m) (sym (marks_length g)) (place_within at.row n g.width g.rows at.row_below lt)) (mark_at g at.row n at.row_below lt ∙ marked)
        | inr past ↦ absurd (true≢false (sym marked ∙ are.within at.row n past))
      ]

  -- otherwise there is no mark
  pub nowhere_marked : ((p : ℕ) → p < length g.words → get_or g.words p 0 ≡ 0) → list_any (λ b. b) (marks_of g) ≡ false
  unfolding is_marked
  nowhere_marked zero_words = ap (list_any (λ b. b)) (marks_none g g.rows g.width (refl, refl) none) ∙ none_any (g.rows * g.width)
    where
      zero_word : (p : ℕ) → get_or g.words p 0 ≡ 0
      zero_word p = elim (cases_lt p (length g.words)) [
        | inl lt ↦ zero_words p lt
        | inr past ↦ get_or_past g.words p 0 past
      ]

      flat_none : (n : ℕ) → is_marked g.words n ≡ false
      flat_none n = rw (zero_word (n / 64), bit_at-zero (n % 64)) refl

      none : (row n : ℕ) → is_marked_in g row n ≡ false
      none row n = elim (cases_lt (n / 64) (words_for g.width)) [
        | inl inside ↦ in_row g row n inside ∙ flat_none ((row * words_for g.width) * 64 + n)
        | inr beyond ↦ past_row g row n beyond
      ]

      none_any : (k : ℕ) → list_any (λ b. b) (replicate k false) ≡ false
      none_any zero = refl
      none_any (suc k) = none_any k

-- words of zeros
pub none_in : (rows width : ℕ) (words : List ℕ) (k row n : ℕ) → words ≡ replicate k 0 → is_marked_in (rows_of rows width words) row n ≡ false
none_in rows width words k row n are = elim (cases_lt (n / 64) (words_for width)) [
  | inl inside ↦ in_row (rows_of rows width words) row n inside ∙ ap (λ ws. is_marked ws ((row * words_for width) * 64 + n)) are ∙ none_marked k ((row * words_for width) * 64 + n)
  | inr beyond ↦ past_row (rows_of rows width words) row n beyond
]

pub left : (start count : ℕ) → start + count - start ≡ count
left start count = omega arith

-- the words of a row as they are cut out
pub cut_row : (rows width row count n : ℕ) (words items : List ℕ) → count ≡ words_for width → words ≡ items → is_marked (take (row * count + count - row * count) (drop (row * count) words)) n ≡ is_marked_in (rows_of rows width items) row n
unfolding is_marked_in
cut_row rows width row count n words items e same =
    ap (λ k. is_marked (take k (drop (row * count) words)) n) (left (row * count) count) ∙ ap₂ (λ w ws. is_marked (take w (drop (row * w) ws)) n) e same

-- a row that is overwritten
module _ (rows width row : ℕ) (words ys : List ℕ) (less : row < rows) (are : IsBitTable (rows_of rows width words)) (long : length ys ≡ words_for width) where
  abbrev put : List ℕ
  put = take (row * words_for width) words ++ (ys ++ drop (words_for width) (drop (row * words_for width) words))

  row_inside : row * words_for width + words_for width ≤ length words
  row_inside = (let all : suc row * words_for width ≤ rows * words_for width = mul-le-mul_right (words_for width) less in omega (arith, all, are.size))

  pub put_length : length put ≡ length words
  put_length =
      let start = row * words_for width in
      let rest : List ℕ = drop (words_for width) (drop start words) in
      omega (arith, length-append (take start words) (ys ++ rest), length-append ys rest, length-take-le start words (omega (arith, row_inside)), length-drop (words_for width) (drop start words), length-drop start words, long, row_inside)

  -- the row as a write leaves it
  pub put_left : (count len m : ℕ) (now : List ℕ) → count ≡ words_for width → now ≡ words → length now ≡ len
      → take len ((take (row * count) now ++ (ys ++ drop (row * count + count - row * count) (drop (row * count) now))) ++ drop m words) ≡ put
  put_left count len m now e same size =
      rw (e, same) (ap (λ k. take len ((take (row * words_for width) words ++ (ys ++ drop k (drop (row * words_for width) words))) ++ drop m words)) (left (row * words_for width) (words_for width)) ∙ written len put (drop m words) (put_length ∙ sym (ap length same) ∙ size))

  words_put : (r : ℕ) → words_of (rows_of rows width put) r ≡ cond (r == row) ys (words_of (rows_of rows width words) r)
  words_put r =
      let count = words_for width in
      let start = row * count in
      let le : start ≤ length words = omega (arith, row_inside) in
      elim (cases_order r row) [
        | inl same ↦ rw (eq-eqb r row same)
            (ap (λ q. take count (drop (q * count) put)) same ∙ ap (take count) (drop_at (take start words) (ys ++ drop count (drop start words)) start (length-take-le start words le)) ∙ take_at ys (drop count (drop start words)) count long)
        | inr (inl before) ↦ (
            let below : suc r * count ≤ start = mul-le-mul_right count before in
            rw (ne_eqb r row (λ e. omega (arith, e, before)))
            (sym (drop-take (r * count) count put) ∙ ap (drop (r * count)) (take-put_mid_below start count words ys (r * count + count) (omega (arith, below)) le) ∙ drop-take (r * count) count words))
        | inr (inr after) ↦ (
            let above : suc row * count ≤ r * count = mul-le-mul_right count after in
            rw (ne_eqb r row (λ e. omega (arith, e, after)))
            (ap (take count) (drop-put_mid start count words ys (r * count) (omega (arith, above)) le long)))
      ]

  module _ (all more : List ℕ) (is : ys ≡ take (words_for width) all) (marked : (n : ℕ) → is_marked all n ≡ (is_marked_in (rows_of rows width words) row n || is_marked more n))
      (within : (n : ℕ) → width ≤ n → is_marked more n ≡ false) where
    row_marked : (n : ℕ) → is_marked ys n ≡ (is_marked_in (rows_of rows width words) row n || is_marked more n)
    unfolding is_marked
    row_marked n = elim (cases_lt (n / 64) (words_for width)) [
      | inl inside ↦ ap (λ w. is_marked w n) is ∙ ap (λ w. bit_at w (n % 64) == 1) (get_or-take (words_for width) all (n / 64) 0 inside) ∙ marked n
      | inr beyond ↦ (
          let past : width ≤ n = omega (arith, beyond) in
          past_words ys n (omega (arith, long, beyond)) ∙ sym (ap₂ (λ a b. a || b) (are.within row n past) (within n past)))
    ]

    pub put_adds : AddsMarks (rows_of rows width words) (rows_of rows width put) (λ r n. r == row && is_marked more n)
    unfolding is_marked_in
    put_adds = record { size = (refl, refl); marks = each }
      where
        no_more : (b : Bool) → b ≡ (b || false)
        no_more true = refl
        no_more false = refl

        each : (r n : ℕ) → is_marked_in (rows_of rows width put) r n ≡ (is_marked_in (rows_of rows width words) r n || (r == row && is_marked more n))
        each r n = ap (λ ws. is_marked ws n) (words_put r) ∙ elim (cases_eq r row) [
          | inl same ↦ rw (eq-eqb r row same) (row_marked n ∙ ap (λ k. is_marked_in (rows_of rows width words) k n || is_marked more n) (sym same))
          | inr other ↦ rw (ne_eqb r row other) (no_more (is_marked_in (rows_of rows width words) r n))
        ]

    pub put_are : IsBitTable (rows_of rows width put)
    put_are = record {
      few = are.few;
      size = put_length ∙ are.size;
      within = λ r n past. put_adds.marks r n ∙ ap₂ (λ a b. a || (r == row && b)) (are.within r n past) (within n past) ∙ none (r == row);
    }
      where
        none : (b : Bool) → (false || (b && false)) ≡ false
        none true = refl
        none false = refl
