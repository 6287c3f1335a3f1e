use Rattle.std.proofs.Common.{◌+◌, IfOk, ap, refl, drop, map, subst}
use Rattle.std.proofs.lemmas.List.{drop_all, drop_more}
use Rattle.std.proofs.lemmas.Result.{IfOk-weaker}
use Rattle.clap.specs.Words.{app_of}
use Rattle.ctt_words.specs.CommandLine.{with_commands}
use Rattle.ctt_words.specs.Outlines.{app_by}
use Rattle.ctt_words.proofs.CommandSteps.{WantsCommands, no_command_wanted, one_command}
use Rattle.ctt_words.proofs.outline.with_commands.Goals as goal

pub loop-outline-init : goal.loop-outline-init
loop-outline-init c = record { reads_by = refl; is_local = c.requires }

pub loop-outline-preserved : goal.loop-outline-preserved
loop-outline-preserved c =
    let outlines = c.args.outlines.now in
    let whole = with_commands (app_of c.args.alone) (map app_by outlines) in
    let left = drop_more outlines c.loop-outline.outline-index _ c.loop-outline-test.true in
    one_command whole _ (map app_by (drop (c.loop-outline.outline-index + 1) outlines)) c.loop-outline.program c.make_command.result c.with_command-program.result
    (subst (λ apps. IfOk c.loop-outline.program (WantsCommands whole apps)) (ap (map app_by) left) c.loop-outline.invariant)
    c.make_command.ensures c.with_command-program.ensures

pub returns : goal.returns
returns c =
    let outlines = c.args.outlines.now in
    let none = ap (map app_by) (drop_all c.loop-outline.outline-index outlines c.loop-outline-test.false) in
    IfOk-weaker c.loop-outline.program _ _ (λ program wants. no_command_wanted (with_commands (app_of c.args.alone) (map app_by outlines)) _ program none wants) c.loop-outline.invariant
