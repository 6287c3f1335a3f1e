use Rattle.std.proofs.Common.{◌≡◌, ◌-◌, []}
use Rattle.ctt_text.specs.Forms.{times}
use Rattle.ctt_text.specs.InstancePlaces.{reads, member}
use Rattle.ctt_text.proofs.instance.members.read_members.Given as goal

-- parsing so far, followed by parsing the rest, is parsing all
abbrev pub invariant-loop : goal.invariant-loop
invariant-loop l = reads (times (member l.courses) (l.count - l.counter) l.members) l.reader ≡ reads (times (member l.courses) l.count []) l.fn.reader
