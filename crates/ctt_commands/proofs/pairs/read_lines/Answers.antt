use Rattle.std.proofs.Common.{rules, ◌≡◌, ◌+◌, ◌⊎◌, ⊎_elim, List, [], ap, drop, inl, inr, map, refl, subst, sym}
use Rattle.std.proofs.lemmas.List.{drop_all, drop_more}
use Rattle.ctt_files.specs.declared.fault.Fault.TheVariants.{Machine}
use Rattle.ctt_files.specs.declared.fault.MachineFault.TheVariants.{NoMemory}
use Rattle.ctt_files.proofs.Plain.{passed_on}
use Rattle.ctt_commands.specs.Pairs.{IsFaultOfLines, name_pair, pairs_from}
use Rattle.ctt_commands.proofs.PairLemmas.{line_fails, line_more, lines_end, none_before, pairs_ahead}
use Rattle.ctt_commands.specs.declared.pairs.Pair.{Pair}
use Rattle.ctt_commands.proofs.pairs.read_lines.Goals as goal

pub loop-line-init : goal.loop-line-init
loop-line-init c =
    let none : c.new-pairs.result.items ≡ [] = search rules in
    record {
      ahead = subst (λ (pairs : List Pair). pairs_ahead (map name_pair pairs) (pairs_from 1 (map (λ line. line.now) c.args.lines.now)) ≡ pairs_from 1 (map (λ line. line.now) c.args.lines.now)) (sym none) (none_before (pairs_from 1 (map (λ line. line.now) c.args.lines.now)));
      counted = refl;
    }

pub loop-line-preserved : goal.loop-line-preserved
loop-line-preserved c =
    let pushed = c.in_ok-push_line.ensures.pushed in
    let before = c.loop-line.invariant in
    record {
      ahead = line_more (c.loop-line.number + 1) _ _ _ (map (λ line. line.now) c.args.lines.now) _ _ pushed.0
          (ap (map (λ line. line.now)) (drop_more c.args.lines.now c.loop-line.line-index _ c.loop-line-test.true)) pushed.1 pushed.2 before.ahead;
      counted = ap (λ n. n + 1) before.counted;
    }

pub returns-clause-pairs : goal.returns-clause-pairs
returns-clause-pairs c =
    lines_end (c.loop-line.number + 1) (map (λ line. line.now) (drop c.loop-line.line-index c.args.lines.now)) (map (λ line. line.now) c.args.lines.now) _
    (ap (map (λ line. line.now)) (drop_all c.loop-line.line-index c.args.lines.now c.loop-line-test.false)) c.loop-line.invariant.ahead

pub returns-in_err-push_line-clause-cause : goal.returns-in_err-push_line-clause-cause
returns-in_err-push_line-clause-cause c =
    let fault = c.in_err-push_line.field-0.0 in
    passed_on c.from_residual.result fault (λ told. (told ≡ Machine NoMemory) ⊎ IsFaultOfLines c.args.file.now (map (λ line. line.now) c.args.lines.now) told) c.from_residual.ensures.1
    (⊎_elim inl (λ refused. inr (
      refused.0,
      c.loop-line.number + 1,
      line_fails (c.loop-line.number + 1) refused.0 _ _ _ (map (λ line. line.now) c.args.lines.now) _
          (ap (map (λ line. line.now)) (drop_more c.args.lines.now c.loop-line.line-index _ c.loop-line-test.true)) refused.1 c.loop-line.invariant.ahead,
      refused.2,
    )) c.in_err-push_line.ensures.cause)
