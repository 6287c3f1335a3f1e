use Rattle.std.proofs.Common.{refl}
use Rattle.ctt_words.specs.CommandLine.{check, compare, page, week}
use Rattle.ctt_words.proofs.commands.solution_outlines.Goals as goal

pub returns-clause-apps : goal.returns-clause-apps
unfolding check compare page week
returns-clause-apps c = refl

pub returns-clause-names : goal.returns-clause-names
returns-clause-names c = refl
