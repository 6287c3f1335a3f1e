use Rattle.std.proofs.Common.{subst}
use Rattle.ctt_core.specs.Audits.{IsNoList}
use Rattle.ctt_commands.proofs.Openings.{verdict_fits}
use Rattle.ctt_commands.proofs.auditing.show_left.Goals as goal

pub show_verdict-requires : goal.show_verdict-requires
show_verdict-requires g c =
    let none = subst (IsNoList c.args.instance.now c.args.lectures.now c.args.entries.now) c.in-Err-Found.field-0-is c.in-Err-Found.ensures.none in
    verdict_fits c.args.instance.now c.args.lectures.now c.args.entries.now c.in-Err-Found.verdict c.requires.lectures none.0
