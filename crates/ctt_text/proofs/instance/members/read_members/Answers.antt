use Rattle.std.proofs.Common.{[]}
use Rattle.std.proofs.lemmas.Result.{err_from_is_err_and}
use Rattle.ctt_text.specs.Forms.{times}
use Rattle.ctt_text.specs.InstancePlaces.{reads, missing, wants_memory, member}
use Rattle.ctt_text.proofs.Steps.{goes_on, ends, is_done}
use Rattle.ctt_text.proofs.instance.members.read_members.Goals as goal

pub returns-in_err-read_member : goal.returns-in_err-read_member
returns-in_err-read_member c =
    let p = err_from_is_err_and c.from_residual.result c.from_residual.ensures.1 in
    rw (p.1, p.2) (ends missing (member c.args.courses.now) c.args.count c.loop.counter c.loop.members c.loop.reader (reads (times (member c.args.courses.now) c.args.count []) c.args.reader.now) c.loop.invariant wants_memory c.in_err-read_member.field-0.0 c.loop-test.true c.in_err-read_member.ensures)

pub loop-preserved : goal.loop-preserved
loop-preserved c = goes_on missing (member c.args.courses.now) c.args.count c.loop.counter c.loop.members c.loop.reader (reads (times (member c.args.courses.now) c.args.count []) c.args.reader.now) c.loop.invariant c.read_member.new.members c.read_member.new.reader c.loop-test.true c.in_ok-read_member.ensures

pub returns : goal.returns
returns c = rw c.into_list.ensures (is_done missing (member c.args.courses.now) c.args.count c.loop.counter c.loop.members c.loop.reader (reads (times (member c.args.courses.now) c.args.count []) c.args.reader.now) c.loop.invariant c.loop-test.false)
