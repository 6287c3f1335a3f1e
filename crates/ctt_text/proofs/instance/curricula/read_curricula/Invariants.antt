use Rattle.std.proofs.Common.{◌≡◌, ◌-◌}
use Rattle.ctt_text.specs.Forms.{times}
use Rattle.ctt_text.specs.InstancePlaces.{reads, curriculum, no_curricula}
use Rattle.ctt_text.proofs.instance.curricula.read_curricula.Given as goal

-- parsing so far, followed by parsing the rest, is parsing all
abbrev pub invariant-loop : goal.invariant-loop
invariant-loop l = reads (times (curriculum l.courses) (l.count - l.counter) l.section) l.reader ≡ reads (times (curriculum l.courses) l.count no_curricula) l.fn.reader
