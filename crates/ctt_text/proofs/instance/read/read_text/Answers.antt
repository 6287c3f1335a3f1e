use Rattle.std.proofs.Common.{ap}
use Rattle.ctt_text.specs.Words.{words}
use Rattle.ctt_text.specs.Forms.{without_rest}
use Rattle.ctt_text.proofs.InstanceLaws.{reads_what_is_spelled}
use Rattle.ctt_text.proofs.InstanceFacts.{spelled_is_problem}
use Rattle.ctt_text.proofs.NamedLaws.{spelled_is_named}
use Rattle.ctt_text.proofs.instance.read.read_text.Goals as goal

pub into_instance-requires-clause-problem : goal.into_instance-requires-clause-problem
into_instance-requires-clause-problem c =
    spelled_is_problem (words c.args.text.now) c.in_ok-sections.sections
    ((reads_what_is_spelled (words c.args.text.now) c.in_ok-sections.sections).0 (ap without_rest (rw c.new-reader.ensures at c.in_ok-sections.ensures)))

pub into_instance-requires-clause-named : goal.into_instance-requires-clause-named
into_instance-requires-clause-named c =
    spelled_is_named c.args.text.now c.in_ok-sections.sections
    ((reads_what_is_spelled (words c.args.text.now) c.in_ok-sections.sections).0 (ap without_rest (rw c.new-reader.ensures at c.in_ok-sections.ensures)))
