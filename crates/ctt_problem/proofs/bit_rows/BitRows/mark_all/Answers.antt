use Rattle.std.proofs.Common.{suc, ◌≡◌, ◌<◌, ◌≤◌, ◌==◌, ◌&&◌, ◌||◌, ◌∙◌, ℕ, length, take, drop, ◌*◌, sym, ap, subst, arith}
use Rattle.std.proofs.lemmas.List.{length-take-le, length-drop}
use Rattle.std.proofs.Math.Nat.{mul-le-mul_right}
use Rattle.ctt_problem.specs.Marks.{is_marked}
use Rattle.ctt_problem.specs.BitRows.{BitTable, words_for, is_marked_in, IsBitTable, AddsMarks}
use Rattle.ctt_problem.proofs.BitRowLemmas.{rows_of, left, put_left, put_adds, put_are}
use Rattle.ctt_problem.proofs.bit_rows.BitRows.mark_all.Goals as goal

pub slice_bounds-copy_from_slice-end-2 : goal.slice_bounds-copy_from_slice-end-2
slice_bounds-copy_from_slice-end-2 c = sym (length-take-le c.words_for-count.result c.words.result.now (omega (arith, c.words.ensures.size, c.words_for-count.ensures, c.self.invariant.few)))

pub copy_from_slice-requires : goal.copy_from_slice-requires
copy_from_slice-requires c =
    let v = c.self.inside in
    let row : c.args.row < v.rows = omega (arith, ap (λ (t : BitTable). t.rows) c.self.view_is, c.requires.row) in
    let start = c.args.row * words_for v.width in
    let all : suc c.args.row * words_for v.width ≤ v.rows * words_for v.width = mul-le-mul_right (words_for v.width) row in
    rw (c.words_for-count.ensures, c.deref_mut.ensures.value)
    (ap (λ k. length (take k (drop start v.words.items))) (left start (words_for v.width)) ∙ length-take-le (words_for v.width) (drop start v.words.items) (omega (arith, all, c.self.invariant.size, length-drop start v.words.items))
    ∙ sym (length-take-le (words_for v.width) c.words.result.now (omega (arith, c.words.ensures.size, c.self.invariant.few))))

module _ (c : goal.After-self-1) where
  row : c.args.row < c.self.inside.rows
  row = omega (arith, ap (λ (t : BitTable). t.rows) c.self.view_is, c.requires.row)

  is : c.copy_from_slice.new.self ≡ take (words_for c.self.inside.width) c.words.result.now
  is = c.copy_from_slice.ensures.after ∙ ap (λ k. take k c.words.result.now) c.words_for-count.ensures

  long : length c.copy_from_slice.new.self ≡ words_for c.self.inside.width
  long = ap length is ∙ length-take-le (words_for c.self.inside.width) c.words.result.now (omega (arith, c.words.ensures.size, c.self.invariant.few))

  marked : (n : ℕ) → is_marked c.words.result.now n ≡ (is_marked_in (rows_of c.self.inside.rows c.self.inside.width c.self.inside.words.items) c.args.row n || is_marked c.args.marks.now n)
  marked n = rw c.self.view_is (ap (λ ws. is_marked ws n) c.words.ensures.value ∙ c.add.ensures n ∙ ap (λ b. b || is_marked c.args.marks.now n) (c.row-all.ensures n))

pub invariant_of-self : goal.invariant_of-self
invariant_of-self c =
    let v = c.self.inside in
    let ys = c.copy_from_slice.new.self in
    subst (λ ws. IsBitTable (rows_of v.rows v.width ws))
    (sym (put_left v.rows v.width c.args.row v.words.items ys (row c) c.self.invariant (long c) c.words_for-count.result v.words.len _ c.deref_mut.result.now c.words_for-count.ensures c.deref_mut.ensures.value c.deref_mut.ensures.len))
    (put_are v.rows v.width c.args.row v.words.items ys (row c) c.self.invariant (long c) c.words.result.now c.args.marks.now (is c) (marked c) (rw (← c.self.view_is) at c.requires.within))

pub returns : goal.returns
returns c =
    let v = c.self.inside in
    let ys = c.copy_from_slice.new.self in
    rw (← c.self.view_is) (subst (λ ws. AddsMarks (rows_of v.rows v.width v.words.items) (rows_of v.rows v.width ws) (λ r n. r == c.args.row && is_marked c.args.marks.now n))
    (sym (put_left v.rows v.width c.args.row v.words.items ys (row c) c.self.invariant (long c) c.words_for-count.result v.words.len _ c.deref_mut.result.now c.words_for-count.ensures c.deref_mut.ensures.value c.deref_mut.ensures.len))
    (put_adds v.rows v.width c.args.row v.words.items ys (row c) c.self.invariant (long c) c.words.result.now c.args.marks.now (is c) (marked c) (rw (← c.self.view_is) at c.requires.within)))
