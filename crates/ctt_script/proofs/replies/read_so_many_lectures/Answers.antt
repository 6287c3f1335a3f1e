use Rattle.std.proofs.Common.{[]}
use Rattle.std.proofs.lemmas.Result.{err_from_is_err_and}
use Rattle.ctt_text.specs.Forms.{times, one_more, list_of}
use Rattle.ctt_text.proofs.Steps.{goes_on, ends, is_done}
use Rattle.ctt_script.specs.JournalWords.{missing_word, journal_wants_memory, parses}
use Rattle.ctt_script.specs.Replies.{lecture}
use Rattle.ctt_script.proofs.replies.read_so_many_lectures.Goals as goal

pub returns-in_err-read_one_lecture : goal.returns-in_err-read_one_lecture
unfolding list_of
returns-in_err-read_one_lecture c =
    let p = err_from_is_err_and c.from_residual-in_err-read_one_lecture.result c.from_residual-in_err-read_one_lecture.ensures.1 in
    let step = one_more (lecture c.args.instance.now) in
    rw (p.1, p.2) (ends missing_word step c.args.count c.loop.counter c.loop.lectures.items c.loop.reader (parses (times step c.args.count []) c.args.reader.now) c.loop.invariant journal_wants_memory c.in_err-read_one_lecture.field-0.0 c.loop-test.true c.in_err-read_one_lecture.ensures)

pub loop-preserved : goal.loop-preserved
loop-preserved c =
    let step = one_more (lecture c.args.instance.now) in
    goes_on missing_word step c.args.count c.loop.counter c.loop.lectures.items c.loop.reader (parses (times step c.args.count []) c.args.reader.now) c.loop.invariant c.read_one_lecture.new.lectures.items c.read_one_lecture.new.reader c.loop-test.true c.in_ok-read_one_lecture.ensures

pub returns : goal.returns
unfolding list_of
returns c =
    let step = one_more (lecture c.args.instance.now) in
    is_done missing_word step c.args.count c.loop.counter c.loop.lectures.items c.loop.reader (parses (times step c.args.count []) c.args.reader.now) c.loop.invariant c.loop-test.false
