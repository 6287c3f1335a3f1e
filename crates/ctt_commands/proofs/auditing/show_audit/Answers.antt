use Rattle.std.proofs.lemmas.Result.{IfErr-weaker, IfOk-weaker}
use Rattle.ctt_commands.proofs.Audited.{verdict_refused}
use Rattle.ctt_commands.proofs.Openings.{verdict_fits}
use Rattle.ctt_commands.proofs.auditing.show_audit.Goals as goal

pub show_verdict-requires : goal.show_verdict-requires
show_verdict-requires g c = verdict_fits c.args.instance.now c.args.lectures.now c.args.entries.now c.in_ok-verdict.verdict c.requires.lectures c.in_ok-verdict.ensures.found

pub returns-clause-shows : goal.returns-clause-shows
returns-clause-shows g c = IfOk-weaker c.show_verdict.result _ _ (λ output shows. (c.in_ok-verdict.verdict, c.in_ok-verdict.ensures.found, shows)) c.show_verdict.ensures.shows

pub returns-clause-cause : goal.returns-clause-cause
returns-clause-cause g c =
    IfErr-weaker c.show_verdict.result _ _ (λ fault told. verdict_refused c.args.instance.now c.args.lectures.now c.args.entries.now c.in_ok-verdict.verdict fault c.in_ok-verdict.ensures.found told) c.show_verdict.ensures.cause
