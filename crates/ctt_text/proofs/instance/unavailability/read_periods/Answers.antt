use Rattle.std.proofs.lemmas.Result.{err_from_is_err_and}
use Rattle.ctt_problem.specs.BitRows.{marks_of}
use Rattle.ctt_text.specs.Forms.{times}
use Rattle.ctt_text.specs.InstancePlaces.{reads, missing, wants_memory, unavailability}
use Rattle.ctt_text.proofs.Steps.{goes_on, ends, is_done}
use Rattle.ctt_text.proofs.instance.unavailability.read_periods.Goals as goal

pub returns-in_err-read_one_period-clause-exact : goal.returns-in_err-read_one_period-clause-exact
returns-in_err-read_one_period-clause-exact c =
    let p = err_from_is_err_and c.from_residual.result c.from_residual.ensures.1 in
    rw (p.1, p.2) (ends missing (unavailability c.args.courses.now c.args.days c.args.periods) c.args.count c.loop.counter (marks_of c.loop.table) c.loop.reader (reads (times (unavailability c.args.courses.now c.args.days c.args.periods) c.args.count (marks_of c.args.table.now)) c.args.reader.now) c.loop.invariant.exact wants_memory c.in_err-read_one_period.field-0.0 c.loop-test.true c.in_err-read_one_period.ensures.exact)

pub loop-preserved : goal.loop-preserved
loop-preserved c = record {
  size = c.in_ok-read_one_period.ensures.size;
  exact = goes_on missing (unavailability c.args.courses.now c.args.days c.args.periods) c.args.count c.loop.counter (marks_of c.loop.table) c.loop.reader (reads (times (unavailability c.args.courses.now c.args.days c.args.periods) c.args.count (marks_of c.args.table.now)) c.args.reader.now) c.loop.invariant.exact (marks_of c.read_one_period.new.table) c.read_one_period.new.reader c.loop-test.true c.in_ok-read_one_period.ensures.exact;
}

pub returns-clause-exact : goal.returns-clause-exact
returns-clause-exact c = is_done missing (unavailability c.args.courses.now c.args.days c.args.periods) c.args.count c.loop.counter (marks_of c.loop.table) c.loop.reader (reads (times (unavailability c.args.courses.now c.args.days c.args.periods) c.args.count (marks_of c.args.table.now)) c.args.reader.now) c.loop.invariant.exact c.loop-test.false
