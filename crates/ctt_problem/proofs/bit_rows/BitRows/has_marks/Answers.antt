use Rattle.std.proofs.Common.{rules, ◌<◌, ◌^◌, length, get_or, sym, ap, ◌∙◌, arith}
use Rattle.ctt_problem.specs.BitRows.{BitTable}
use Rattle.ctt_problem.proofs.BitRowLemmas.{rows_of, some_marked, nowhere_marked}
use Rattle.ctt_problem.proofs.bit_rows.BitRows.has_marks.Goals as goal

pub returns-then-word-ne0 : goal.returns-then-word-ne0
returns-then-word-ne0 c =
    let v = c.self.inside in
    let small : get_or v.words.items c.loop-word.word-index 0 < 2 ^ 64 = search rules in
    let within : c.loop-word.word-index < length v.words.items = search rules in
    rw (← c.self.view_is) (sym (some_marked (rows_of v.rows v.width v.words.items) c.self.invariant c.loop-word.word-index within (rw c.deref-word-items.ensures.value at c.if-word-ne0.true) small))

pub returns : goal.returns
returns c =
    let v = c.self.inside in
    rw (← c.self.view_is) (sym (nowhere_marked (rows_of v.rows v.width v.words.items) c.self.invariant (λ p lt.
    ap (λ (t : BitTable). get_or t.words p 0) c.self.view_is
    ∙ c.loop-word.invariant p (omega (arith, lt, ap length c.deref-word-items.ensures.value, c.loop-word-test.false)))))
