use Rattle.std.proofs.Common.{◌≡◌, ◌-◌, []}
use Rattle.ctt_text.specs.Forms.{times, one_more}
use Rattle.ctt_script.specs.JournalWords.{parses}
use Rattle.ctt_script.specs.Replies.{offer_form}
use Rattle.ctt_script.proofs.offers.read_so_many_offers.Given as goal

-- what was parsed so far, and the rest parsed after it, is all
abbrev pub invariant-loop : goal.invariant-loop
invariant-loop l = parses (times (one_more (offer_form l.instance)) (l.count - l.counter) l.list) l.reader ≡ parses (times (one_more (offer_form l.instance)) l.count []) l.fn.reader
