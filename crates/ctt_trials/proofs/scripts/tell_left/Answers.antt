use Rattle.std.proofs.Common.{rules, subst, sym}
use Rattle.std.proofs.Crossing.{crosses}
use denote.Param.Send.{sendable}
use Rattle.ctt_problem.proofs.SharingLemmas.{instance_shared}
use Rattle.ctt_script.specs.Entries.{IsWritable}
use Rattle.ctt_trials.proofs.scripts.tell_left.Goals as goal

pub tell_journal-requires : goal.tell_journal-requires
tell_journal-requires c κs =
    let entries : IsWritable c.args.script.now.small.now c.journal.result.now = subst (λ entries. IsWritable c.args.script.now.small.now entries) (sym c.journal.ensures) c.requires in
    (search (instance_shared, sendable, crosses) depth 60 fits 20000, (search (instance_shared, sendable, crosses) depth 60 fits 20000, search rules))
