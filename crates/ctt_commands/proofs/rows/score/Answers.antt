use Rattle.std.proofs.Common.{◌<◌, ◌^◌, subst, sym}
use Rattle.ctt_commands.specs.Rows.{violations}
use Rattle.ctt_commands.proofs.RowLemmas.{few_violations}
use Rattle.ctt_commands.proofs.rows.score.Goals as goal

pub violations-requires : goal.violations-requires
violations-requires c =
    subst (λ hard. violations hard < 2 ^ 64) (sym c.assess-found.ensures.hard) (few_violations c.args.instance.now c.args.timetable.now c.requires c.limits_hold.ensures)
