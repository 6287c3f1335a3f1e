use Rattle.std.proofs.Common.{◌≡◌, ◌-◌}
use Rattle.ctt_text.specs.Forms.{times}
use Rattle.ctt_text.specs.InstancePlaces.{reads, room, no_rooms}
use Rattle.ctt_text.proofs.instance.rooms.read_rooms.Given as goal

-- parsing so far, followed by parsing the rest, is parsing all
abbrev pub invariant-loop : goal.invariant-loop
invariant-loop l = reads (times (room) (l.count - l.counter) l.section) l.reader ≡ reads (times (room) l.count no_rooms) l.fn.reader
