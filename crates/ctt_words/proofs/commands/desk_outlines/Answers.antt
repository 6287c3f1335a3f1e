use Rattle.std.proofs.Common.{refl}
use Rattle.ctt_words.specs.CommandLine.{audit, crew, desk, find, journal, list, mend, run}
use Rattle.ctt_words.proofs.commands.desk_outlines.Goals as goal

pub returns-clause-apps : goal.returns-clause-apps
unfolding audit crew desk find journal list mend run
returns-clause-apps c = refl

pub returns-clause-names : goal.returns-clause-names
returns-clause-names c = refl
