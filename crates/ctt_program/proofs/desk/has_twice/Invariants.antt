use Rattle.std.proofs.Common.{◌≡◌, drop}
use Rattle.ctt_program.specs.Seats.{has_twice}
use Rattle.ctt_program.proofs.desk.has_twice.Given as goal

-- the seats from this index on have one twice if all seats do
abbrev pub invariant-loop-place : goal.invariant-loop-place
invariant-loop-place l = has_twice (drop l.place l.seats) ≡ has_twice l.seats
