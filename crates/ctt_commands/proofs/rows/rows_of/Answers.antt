use Rattle.std.proofs.Common.{◌+◌, ap, arith, refl, rules, subst, sym}
use Rattle.std.proofs.lemmas.List.{drop_all}
use Rattle.ctt_problem.proofs.TimetableLemmas.{Each-at}
use Rattle.ctt_commands.specs.Groups.{GroupFits}
use Rattle.ctt_commands.proofs.CompareLemmas.{all_rows_ahead, left_at, more_rows_ahead, no_rows_ahead}
use Rattle.ctt_commands.proofs.rows.rows_of.Goals as goal

pub loop-group-init : goal.loop-group-init
loop-group-init c = record {
  ahead = no_rows_ahead c.args.groups.now c.new-rows.result.items (search rules);
  counted = refl;
}

pub push_group-requires : goal.push_group-requires
push_group-requires c =
    subst GroupFits (sym c.group-item.is) (Each-at GroupFits c.args.groups.now c.requires c.loop-group.group-index c.group-item.result c.loop-group-test.true)

pub loop-group-preserved : goal.loop-group-preserved
loop-group-preserved c =
    let added = c.in_ok-push_group.ensures in
    let before = c.loop-group.invariant in
    record {
      ahead = more_rows_ahead c.args.groups.now c.loop-group.number c.group-item.result _ _ _ _ added.0
          (left_at c.args.groups.now c.loop-group.group-index c.group-item.result c.loop-group-test.true c.group-item.is) added.1 added.2 before.ahead;
      counted = ap (λ n. n + 1) before.counted;
    }

pub returns : goal.returns
returns c = all_rows_ahead c.args.groups.now _ _ _ (drop_all _ _ c.loop-group-test.false) c.loop-group.invariant.ahead
