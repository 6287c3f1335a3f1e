use Rattle.std.proofs.Common.{[]}
use Rattle.std.proofs.lemmas.Result.{err_from_is_err_and}
use Rattle.ctt_text.specs.Forms.{times, one_more, list_of}
use Rattle.ctt_text.proofs.Steps.{goes_on, ends, is_done}
use Rattle.ctt_script.specs.JournalWords.{missing_word, journal_wants_memory, parses}
use Rattle.ctt_script.specs.Replies.{priced_form}
use Rattle.ctt_script.proofs.replies.read_so_many_priced.Goals as goal

pub returns-in_err-read_one_priced : goal.returns-in_err-read_one_priced
unfolding list_of
returns-in_err-read_one_priced c =
    let p = err_from_is_err_and c.from_residual.result c.from_residual.ensures.1 in
    let step = one_more (priced_form c.args.instance.now) in
    rw (p.1, p.2) (ends missing_word step c.args.count c.loop.counter c.loop.list c.loop.reader (parses (times step c.args.count []) c.args.reader.now) c.loop.invariant journal_wants_memory c.in_err-read_one_priced.field-0.0 c.loop-test.true c.in_err-read_one_priced.ensures)

pub loop-preserved : goal.loop-preserved
loop-preserved c =
    let step = one_more (priced_form c.args.instance.now) in
    goes_on missing_word step c.args.count c.loop.counter c.loop.list c.loop.reader (parses (times step c.args.count []) c.args.reader.now) c.loop.invariant c.read_one_priced.new.list c.read_one_priced.new.reader c.loop-test.true c.in_ok-read_one_priced.ensures

pub returns : goal.returns
unfolding list_of
returns c =
    let step = one_more (priced_form c.args.instance.now) in
    is_done missing_word step c.args.count c.loop.counter c.loop.list c.loop.reader (parses (times step c.args.count []) c.args.reader.now) c.loop.invariant c.loop-test.false
