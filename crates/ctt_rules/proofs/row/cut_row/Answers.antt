use Rattle.std.proofs.Common.{◌≡◌, ◌==◌, ◌<◌, false, length, get_or, ◌∙◌, ap, arith, rules}
use Rattle.std.specs.List.{prefix_len}
use Rattle.ctt_problem.specs.declared.placed.Placed.{Placed}
use Rattle.ctt_problem.proofs.TableLemmas.{same_element}
use Rattle.ctt_rules.proofs.RowLemmas.{passes_end, cut_is}
use Rattle.ctt_rules.proofs.row.cut_row.Goals as goal
use Rattle.ctt_rules.proofs.row.cut_row.Goals.{then-loop-len-test+else-eq, else-loop-len-test}

pub returns : goal.returns
returns c = λ t ascending is.
    let ls = c.args.lectures.now in
    let k = c.loop-len.len in
    let d : Placed = record { course = 0; slot = 0; room = 0 } in
    let stop : k < length ls → ((get_or ls k d).course == c.args.course) ≡ false = (λ lt. elim c.loop-len-test.branch [
      | then-loop-len-test+else-eq w ↦ (let other : ((get_or ls k w.index-lectures-len.result).course == c.args.course) ≡ false = search rules in ap (λ (l : Placed). l.course == c.args.course) (same_element ls k d w.index-lectures-len.result lt) ∙ other)
      | else-loop-len-test w ↦ absurd (omega (arith, lt, w.loop-len-test.false))
    ]) in
    let end : prefix_len (λ (l : Placed). l.course == c.args.course) ls ≡ k = passes_end (λ (l : Placed). l.course == c.args.course) d ls k c.loop-len.invariant.within c.loop-len.invariant.row stop in
    rw (c.split_at.ensures.front, c.split_at.ensures.back) (cut_is t ascending c.args.course ls is k end)
