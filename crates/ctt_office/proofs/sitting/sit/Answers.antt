use Rattle.std.proofs.Common.{◌∙◌, Err, ap, refl}
use Rattle.std.proofs.lemmas.Result.{IfErr-at_err, IfOk-at_ok}
use Rattle.ctt_desk.specs.Planners.{PlannerValue}
use Rattle.ctt_office.specs.Lines.{coming}
use Rattle.ctt_office.proofs.SittingLemmas.{breaks_off, ends_by, leaves_by, sits_down, sits_on}
use Rattle.ctt_office.proofs.sitting.sit.Goals as goal

pub loop-init : goal.loop-init
loop-init g c = (sits_down _ _ c.args.place (coming c.args.lines.now) (g.O.Sink.taken c.args.out.now) (coming c.args.lines.now) refl, c.requires.fits)

pub returns-in-Err-clause-sat : goal.returns-in-Err-clause-sat
returns-in-Err-clause-sat g c =
    ends_by _ _ _ _ c.args.place c.loop.place (coming c.args.lines.now) (g.O.Sink.taken c.args.out.now) (g.O.Sink.taken c.loop.out) (coming c.loop.lines) c.next_line.new.lines.has_failed c.in-Err.end c.loop.invariant.0 c.in-Err.ensures.end c.leave.ensures

pub returns-then-is_last-clause-sat : goal.returns-then-is_last-clause-sat
returns-then-is_last-clause-sat g c =
    leaves_by _ _ _ (λ _. Unit {0}) c.args.place c.loop.place c.serve-after.result.0 (coming c.args.lines.now) (g.O.Sink.taken c.args.out.now) (g.O.Sink.taken c.loop.out) (g.O.Sink.taken c.serve-after.new.out)
    (coming c.loop.lines) (coming c.next_line.new.lines) c.line_of-line.result c.loop.invariant.0 (c.line_of-line.ensures.asked c.loop.lines c.next_line.new.lines (IfOk-at_ok _ c.in-Ok.is c.next_line.ensures.comes) c.line.ensures) (IfOk-at_ok _ c.in-Ok-served.is c.serve-after.ensures.told) (c.is_last-is_last.ensures.yes c.if-is_last.true) c.leave-then-is_last.ensures

pub loop-preserved : goal.loop-preserved
loop-preserved g c = (
  sits_on _ _ c.args.place c.loop.place c.serve-after.result.0 (coming c.args.lines.now) (g.O.Sink.taken c.args.out.now) (g.O.Sink.taken c.loop.out) (g.O.Sink.taken c.serve-after.new.out)
      (coming c.loop.lines) (coming c.next_line.new.lines) c.line_of-line.result c.loop.invariant.0 (c.line_of-line.ensures.asked c.loop.lines c.next_line.new.lines (IfOk-at_ok _ c.in-Ok.is c.next_line.ensures.comes) c.line.ensures) (IfOk-at_ok _ c.in-Ok-served.is c.serve-after.ensures.told) (c.is_last-is_last.ensures.no c.if-is_last.false),
  c.serve-after.ensures.fits,
)

pub returns-in-Err-served-clause-sat : goal.returns-in-Err-served-clause-sat
returns-in-Err-served-clause-sat g c =
    breaks_off _ _ _ _ c.args.place c.loop.place c.serve-after.result.0 (coming c.args.lines.now) (g.O.Sink.taken c.args.out.now) (g.O.Sink.taken c.loop.out) (g.O.Sink.taken c.serve-after.new.out)
    (coming c.loop.lines) (coming c.next_line.new.lines) c.line_of-line.result c.in-Err-served.cut c.loop.invariant.0 (c.line_of-line.ensures.asked c.loop.lines c.next_line.new.lines (IfOk-at_ok _ c.in-Ok.is c.next_line.ensures.comes) c.line.ensures) (IfErr-at_err _ c.in-Err-served.is c.serve-after.ensures.cut) c.leave-in-Err-served.ensures
    (λ same. ap (λ (p : PlannerValue). p.committed) c.leave-in-Err-served.ensures ∙ c.serve-after.ensures.unheard (c.in-Err-served.is ∙ ap Err same))
