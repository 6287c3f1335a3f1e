use Rattle.std.proofs.Common.{◌≡◌, ◌<◌, ◌+◌, ◌*◌, ◌/◌, get_or, ap, arith}
use Rattle.ctt_problem.specs.BitRows.{BitTable, words_for}
use Rattle.ctt_problem.proofs.BitRowLemmas.{word_read, unmark_sets, unmark_are}
use Rattle.ctt_problem.proofs.bit_rows.BitRows.unmark.Goals as goal

module _ (c : goal.After-self-1) where
  row : c.args.row < c.self.inside.rows
  row = omega (arith, ap (λ (m : BitTable). m.rows) c.self.view_is, c.requires.row)

  number : c.args.number < c.self.inside.width
  number = omega (arith, ap (λ (m : BitTable). m.width) c.self.view_is, c.requires.number)

  word : c.index_mut.result.now ≡ get_or c.self.inside.words.items (c.args.row * words_for c.self.inside.width + c.args.number / 64) 0
  word = word_read c.self.inside.rows c.self.inside.width c.args.row c.args.number c.self.inside.words.items row number c.self.invariant c.words_for.result _ c.index_mut.result.now c.words_for.ensures c.index_mut.ensures.value

pub invariant_of-self : goal.invariant_of-self
invariant_of-self c =
    let v = c.self.inside in
    rw c.words_for.ensures (unmark_are v.rows v.width c.args.row c.args.number v.words.items (row c) (number c) c.self.invariant _ (word c))

pub returns : goal.returns
returns c =
    let v = c.self.inside in
    rw (← c.self.view_is) (rw c.words_for.ensures (unmark_sets v.rows v.width c.args.row c.args.number v.words.items (row c) (number c) c.self.invariant _ (word c)))
