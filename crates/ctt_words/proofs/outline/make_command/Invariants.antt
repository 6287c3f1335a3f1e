use Rattle.std.proofs.Common.{drop, map}
use Rattle.ctt_words.specs.Outlines.{app_by, rule_by}
use Rattle.ctt_words.proofs.CommandSteps.{Wants}
use Rattle.ctt_words.proofs.outline.make_command.Given as goal

-- the arguments that are left remain to be added
abbrev pub invariant-loop-argument : goal.invariant-loop-argument
invariant-loop-argument l = Wants (app_by l.of) (map rule_by (drop l.argument-index l.of.arguments.now)) l.command
