use Rattle.std.proofs.lemmas.Result.{err_from_is_err_and}
use Rattle.ctt_text.specs.Forms.{times}
use Rattle.ctt_text.specs.InstancePlaces.{reads, missing, wants_memory, curriculum, no_curricula}
use Rattle.ctt_text.proofs.Steps.{goes_on, ends, is_done}
use Rattle.ctt_text.proofs.instance.curricula.read_curricula.Goals as goal

pub returns-in_err-read_one_curriculum : goal.returns-in_err-read_one_curriculum
returns-in_err-read_one_curriculum c =
    let p = err_from_is_err_and c.from_residual.result c.from_residual.ensures.1 in
    rw (p.1, p.2) (ends missing (curriculum c.args.courses.now) c.args.count c.loop.counter c.loop.section c.loop.reader (reads (times (curriculum c.args.courses.now) c.args.count no_curricula) c.args.reader.now) c.loop.invariant wants_memory c.in_err-read_one_curriculum.field-0.0 c.loop-test.true c.in_err-read_one_curriculum.ensures)

pub loop-preserved : goal.loop-preserved
loop-preserved c = goes_on missing (curriculum c.args.courses.now) c.args.count c.loop.counter c.loop.section c.loop.reader (reads (times (curriculum c.args.courses.now) c.args.count no_curricula) c.args.reader.now) c.loop.invariant c.read_one_curriculum.new.section c.read_one_curriculum.new.reader c.loop-test.true c.in_ok-read_one_curriculum.ensures

pub returns : goal.returns
returns c = is_done missing (curriculum c.args.courses.now) c.args.count c.loop.counter c.loop.section c.loop.reader (reads (times (curriculum c.args.courses.now) c.args.count no_curricula) c.args.reader.now) c.loop.invariant c.loop-test.false
