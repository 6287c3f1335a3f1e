use Rattle.std.proofs.Common.{[]}
use Rattle.std.proofs.lemmas.Result.{err_from_is_err_and}
use Rattle.ctt_text.specs.Forms.{times, one_more, list_of}
use Rattle.ctt_text.proofs.Steps.{goes_on, ends, is_done}
use Rattle.ctt_script.specs.JournalWords.{missing_word, journal_wants_memory, parses}
use Rattle.ctt_script.specs.Journals.{entry_form}
use Rattle.ctt_script.proofs.journal.read_so_many_entries.Goals as goal

pub returns-in_err-read_one_entry : goal.returns-in_err-read_one_entry
unfolding list_of
returns-in_err-read_one_entry c =
    let p = err_from_is_err_and c.from_residual.result c.from_residual.ensures.1 in
    let step = one_more (entry_form c.args.instance.now) in
    rw (p.1, p.2) (ends missing_word step c.args.count c.loop.counter c.loop.entries.items c.loop.reader (parses (times step c.args.count []) c.args.reader.now) c.loop.invariant journal_wants_memory c.in_err-read_one_entry.field-0.0 c.loop-test.true c.in_err-read_one_entry.ensures)

pub loop-preserved : goal.loop-preserved
loop-preserved c =
    let step = one_more (entry_form c.args.instance.now) in
    goes_on missing_word step c.args.count c.loop.counter c.loop.entries.items c.loop.reader (parses (times step c.args.count []) c.args.reader.now) c.loop.invariant c.read_one_entry.new.entries.items c.read_one_entry.new.reader c.loop-test.true c.in_ok-read_one_entry.ensures

pub returns : goal.returns
unfolding list_of
returns c =
    let step = one_more (entry_form c.args.instance.now) in
    is_done missing_word step c.args.count c.loop.counter c.loop.entries.items c.loop.reader (parses (times step c.args.count []) c.args.reader.now) c.loop.invariant c.loop-test.false
