use Rattle.std.proofs.Common.{IfOk, drop, map}
use Rattle.clap.specs.Words.{app_of}
use Rattle.ctt_words.specs.CommandLine.{with_commands}
use Rattle.ctt_words.specs.Outlines.{app_by}
use Rattle.ctt_words.proofs.CommandSteps.{WantsCommands}
use Rattle.ctt_words.proofs.outline.with_commands.Given as goal

-- the commands that are left remain to be added
abbrev pub invariant-loop-outline : goal.invariant-loop-outline
invariant-loop-outline l = IfOk l.program (WantsCommands (with_commands (app_of l.fn.alone) (map app_by l.outlines)) (map app_by (drop l.outline-index l.outlines)))
