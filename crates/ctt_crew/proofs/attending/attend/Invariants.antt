use Rattle.std.proofs.Common.{string_bytes}
use Rattle.ctt_script.specs.ScriptText.{lines_of}
use Rattle.ctt_seat.specs.Seats.{seat_value}
use Rattle.ctt_crew.specs.Attending.{IsAttending}
use Rattle.ctt_crew.proofs.attending.attend.Given as goal

-- all lines but those that are left have been answered
abbrev pub invariant-loop-line : goal.invariant-loop-line
invariant-loop-line g l = IsAttending g.J.Naming.problem g.J.Naming.opening l.number (lines_of l.attendance.script.now) l.line-iterator (seat_value l.initial.seat) (seat_value l.seat) (string_bytes l.text)
