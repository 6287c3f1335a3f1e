use Rattle.std.proofs.Common.{◌≡◌, ◌+◌, ◌++◌, ℕ, arith, subst}
use Rattle.ctt_commands.specs.Tables.{each_below, others, right}
use Rattle.ctt_commands.proofs.TableLemmas.{one_more}
use Rattle.ctt_commands.proofs.aligned.push_others.Goals as goal

pub loop-column-preserved : goal.loop-column-preserved
loop-column-preserved c = one_more (λ k. right c.args.widths.now c.args.cells.now (k + 1)) c.loop-column.column _ _ _ c.loop-column.invariant c.in_ok-push_right.ensures

pub returns : goal.returns
returns c =
    let last : c.loop-column.column ≡ others c.args.cells.now = omega (arith, c.loop-column-test.false, c.loop-column.auto.column-end, c.len.ensures) in
    subst (λ (n : ℕ). c.loop-column.text.items ≡ c.args.text.now.items ++ each_below (λ k. right c.args.widths.now c.args.cells.now (k + 1)) n) last c.loop-column.invariant
