use Rattle.std.proofs.Common.{arith}
use Rattle.std.proofs.lemmas.Result.{err_from_is_err_and}
use Rattle.ctt_text.specs.Forms.{times}
use Rattle.ctt_text.specs.InstancePlaces.{reads, missing, wants_memory, course, no_courses}
use Rattle.ctt_text.proofs.Steps.{goes_on, ends, is_done}
use Rattle.ctt_text.proofs.instance.courses.read_courses.Goals as goal

pub returns-in_err-read_one_course-clause-exact : goal.returns-in_err-read_one_course-clause-exact
returns-in_err-read_one_course-clause-exact c =
    let p = err_from_is_err_and c.from_residual.result c.from_residual.ensures.1 in
    rw (p.1, p.2) (ends missing (course) c.args.count c.loop.counter c.loop.section c.loop.reader (reads (times (course) c.args.count no_courses) c.args.reader.now) c.loop.invariant.so_far wants_memory c.in_err-read_one_course.field-0.0 c.loop-test.true c.in_err-read_one_course.ensures.exact)

pub loop-preserved : goal.loop-preserved
loop-preserved c = record {
  so_far = goes_on missing (course) c.args.count c.loop.counter c.loop.section c.loop.reader (reads (times (course) c.args.count no_courses) c.args.reader.now) c.loop.invariant.so_far c.read_one_course.new.section c.read_one_course.new.reader c.loop-test.true c.in_ok-read_one_course.ensures.exact;
  count = omega (arith, c.in_ok-read_one_course.ensures.names, c.loop.invariant.count);
  few = omega (arith, c.in_ok-read_one_course.ensures.teachers, c.loop.invariant.few);
}

pub returns-clause-exact : goal.returns-clause-exact
returns-clause-exact c = is_done missing (course) c.args.count c.loop.counter c.loop.section c.loop.reader (reads (times (course) c.args.count no_courses) c.args.reader.now) c.loop.invariant.so_far c.loop-test.false
