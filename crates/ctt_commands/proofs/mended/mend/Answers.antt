use Rattle.std.proofs.Common.{◌∙◌, sym, subst}
use Rattle.ctt_problem.specs.Timetable.{IsTimetable}
use Rattle.ctt_commands.proofs.MendLemmas.{mended_timetable}
use Rattle.ctt_commands.proofs.mended.mend.Goals as goal

pub write_solution-requires : goal.write_solution-requires
write_solution-requires g c = subst (IsTimetable c.args.instance.now) (sym (c.deref.ensures.value ∙ c.in_ok-left.ensures.left)) (mended_timetable c.args.instance.now c.args.lectures.now c.requires)
