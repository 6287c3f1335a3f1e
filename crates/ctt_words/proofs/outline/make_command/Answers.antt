use Rattle.std.proofs.Common.{◌+◌, rules, ap, drop, map, subst}
use Rattle.std.proofs.lemmas.List.{drop_all, drop_more}
use Rattle.ctt_words.specs.Outlines.{app_by, rule_by}
use Rattle.ctt_words.proofs.CommandSteps.{Wants, none_wanted, one_argument}
use Rattle.ctt_words.proofs.outline.make_command.Goals as goal

pub loop-argument-init : goal.loop-argument-init
loop-argument-init c = record { reads_by = search rules; is_local = search rules }

pub loop-argument-preserved : goal.loop-argument-preserved
loop-argument-preserved c =
    let arguments = c.args.of.now.arguments.now in
    let left = drop_more arguments c.loop-argument.argument-index _ c.loop-argument-test.true in
    one_argument (app_by c.args.of.now) _ (map rule_by (drop (c.loop-argument.argument-index + 1) arguments)) c.loop-argument.command c.make_argument.result c.in_ok-command.command
    (subst (λ rules. Wants (app_by c.args.of.now) rules c.loop-argument.command) (ap (map rule_by) left) c.loop-argument.invariant)
    c.make_argument.ensures.rule c.make_argument.ensures.local c.in_ok-command.ensures

pub returns : goal.returns
returns c =
    let arguments = c.args.of.now.arguments.now in
    none_wanted (app_by c.args.of.now) _ c.loop-argument.command (ap (map rule_by) (drop_all c.loop-argument.argument-index arguments c.loop-argument-test.false)) c.loop-argument.invariant
