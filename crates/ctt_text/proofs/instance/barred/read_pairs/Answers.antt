use Rattle.std.proofs.lemmas.Result.{err_from_is_err_and}
use Rattle.ctt_problem.specs.BitRows.{marks_of}
use Rattle.ctt_text.specs.Forms.{times}
use Rattle.ctt_text.specs.BarredPlaces.{reads_barred, ends_early, wants_memory, barred_pair}
use Rattle.ctt_text.proofs.Steps.{goes_on, ends, is_done}
use Rattle.ctt_text.proofs.instance.barred.read_pairs.Goals as goal

pub returns-in_err-read_pair-clause-exact : goal.returns-in_err-read_pair-clause-exact
returns-in_err-read_pair-clause-exact c =
    let p = err_from_is_err_and c.from_residual.result c.from_residual.ensures.1 in
    rw (p.1, p.2) (ends ends_early (barred_pair c.args.instance.now) c.args.count c.loop.counter (marks_of c.loop.table) c.loop.reader (reads_barred (times (barred_pair c.args.instance.now) c.args.count (marks_of c.args.table.now)) c.args.reader.now) c.loop.invariant.exact wants_memory c.in_err-read_pair.field-0.0 c.loop-test.true c.in_err-read_pair.ensures.exact)

pub loop-preserved : goal.loop-preserved
loop-preserved c = record {
  size = c.in_ok-read_pair.ensures.size;
  exact = goes_on ends_early (barred_pair c.args.instance.now) c.args.count c.loop.counter (marks_of c.loop.table) c.loop.reader (reads_barred (times (barred_pair c.args.instance.now) c.args.count (marks_of c.args.table.now)) c.args.reader.now) c.loop.invariant.exact (marks_of c.read_pair.new.table) c.read_pair.new.reader c.loop-test.true c.in_ok-read_pair.ensures.exact;
}

pub returns-clause-exact : goal.returns-clause-exact
returns-clause-exact c = is_done ends_early (barred_pair c.args.instance.now) c.args.count c.loop.counter (marks_of c.loop.table) c.loop.reader (reads_barred (times (barred_pair c.args.instance.now) c.args.count (marks_of c.args.table.now)) c.args.reader.now) c.loop.invariant.exact c.loop-test.false
