use Rattle.std.proofs.Common.{◌≡◌, ◌-◌, []}
use Rattle.ctt_text.specs.Forms.{times, one_more}
use Rattle.ctt_script.specs.JournalWords.{parses}
use Rattle.ctt_script.specs.Replies.{lecture}
use Rattle.ctt_script.proofs.replies.read_so_many_lectures.Given as goal

-- what was parsed so far, and the rest parsed after it, is all
abbrev pub invariant-loop : goal.invariant-loop
invariant-loop l = parses (times (one_more (lecture l.instance)) (l.count - l.counter) l.lectures.items) l.reader ≡ parses (times (one_more (lecture l.instance)) l.count []) l.fn.reader
