use Rattle.std.proofs.Common.{rules, sym, subst}
use Rattle.std.specs.List.{AllByRecursion as Each}
use Rattle.ctt_problem.specs.Timetable.{Fits}
use Rattle.ctt_edits.proofs.OpeningLemmas.{opening_faults_fit}
use Rattle.ctt_desk.specs.Faults.{IsUnlawful}
use Rattle.ctt_program.proofs.desk.open_on.Goals as goal

pub new-requires : goal.new-requires
new-requires g c κs =
    let fit : Each (Fits c.args.instance.now) c.deref.result.now = subst (Each (Fits c.args.instance.now)) (sym c.deref.ensures.value) c.in_ok-lectures.ensures.fit in
    search rules

pub refused_opening-requires : goal.refused_opening-requires
refused_opening-requires g c =
    let fit : Each (Fits c.args.instance.now) c.deref.result.now = subst (Each (Fits c.args.instance.now)) (sym c.deref.ensures.value) c.in_ok-lectures.ensures.fit in
    opening_faults_fit c.args.instance.now c.deref.result.now c.in-Err-Unlawful.at c.in-Err-Unlawful.fault fit (subst (IsUnlawful c.args.instance.now c.deref.result.now) c.in-Err-Unlawful.field-0-is c.in-Err-Unlawful.ensures.fault)

pub returns-in-Err-NoPlace-clause-cause : goal.returns-in-Err-NoPlace-clause-cause
returns-in-Err-NoPlace-clause-cause g c = absurd (subst (IsUnlawful c.args.instance.now c.deref.result.now) c.in-Err-NoPlace.field-0-is c.in-Err-NoPlace.ensures.fault)
