use Rattle.std.proofs.lemmas.Result.{err_from_is_err_and}
use Rattle.ctt_text.specs.Forms.{times}
use Rattle.ctt_text.specs.BlockedPlaces.{reads_blocked, ends_early, wants_memory, blocked_entry, closures_in}
use Rattle.ctt_text.proofs.Steps.{goes_on, ends, is_done}
use Rattle.ctt_text.proofs.instance.blocked.read_entries.Goals as goal

pub returns-in_err-read_entry-clause-exact : goal.returns-in_err-read_entry-clause-exact
returns-in_err-read_entry-clause-exact c =
    let p = err_from_is_err_and c.from_residual.result c.from_residual.ensures.1 in
    rw (p.1, p.2) (ends ends_early (blocked_entry c.args.instance.now) c.args.count c.loop.counter (closures_in c.loop.tables) c.loop.reader (reads_blocked (times (blocked_entry c.args.instance.now) c.args.count (closures_in c.args.tables.now)) c.args.reader.now) c.loop.invariant.exact wants_memory c.in_err-read_entry.field-0.0 c.loop-test.true c.in_err-read_entry.ensures.exact)

pub loop-preserved : goal.loop-preserved
loop-preserved c = record {
  size = c.in_ok-read_entry.ensures.size;
  exact = goes_on ends_early (blocked_entry c.args.instance.now) c.args.count c.loop.counter (closures_in c.loop.tables) c.loop.reader (reads_blocked (times (blocked_entry c.args.instance.now) c.args.count (closures_in c.args.tables.now)) c.args.reader.now) c.loop.invariant.exact (closures_in c.read_entry.new.tables) c.read_entry.new.reader c.loop-test.true c.in_ok-read_entry.ensures.exact;
}

pub returns-clause-exact : goal.returns-clause-exact
returns-clause-exact c = is_done ends_early (blocked_entry c.args.instance.now) c.args.count c.loop.counter (closures_in c.loop.tables) c.loop.reader (reads_blocked (times (blocked_entry c.args.instance.now) c.args.count (closures_in c.args.tables.now)) c.args.reader.now) c.loop.invariant.exact c.loop-test.false
