use Rattle.std.proofs.Common.{◌<◌, ap, arith}
use Rattle.ctt_problem.specs.BitRows.{BitTable}
use Rattle.ctt_problem.proofs.BitRowLemmas.{word_read, mark_is}
use Rattle.ctt_problem.proofs.bit_rows.BitRows.is_marked.Goals as goal

pub returns : goal.returns
returns c =
    let v = c.self.inside in
    let row : c.args.row < v.rows = omega (arith, ap (λ (m : BitTable). m.rows) c.self.view_is, c.requires.row) in
    let number : c.args.number < v.width = omega (arith, ap (λ (m : BitTable). m.width) c.self.view_is, c.requires.number) in
    let word = word_read v.rows v.width c.args.row c.args.number v.words.items row number c.self.invariant c.words_for.result _ c.index.result.now c.words_for.ensures c.index.ensures in
    rw (← c.self.view_is) (mark_is v.rows v.width c.args.row c.args.number v.words.items row number c.self.invariant _ word)
