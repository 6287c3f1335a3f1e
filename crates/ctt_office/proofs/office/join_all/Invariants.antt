use Rattle.std.proofs.Common.{◌≡◌, ◌+◌, length}
use Rattle.std.specs.Prelude.{IfErr}
use Rattle.std.specs.Vec.Iter.{into_iter_items}
use Rattle.ctt_office.specs.OfficeFaults.{IsOfficeFault}
use Rattle.ctt_office.proofs.office.join_all.Given as goal

-- each thread has ended, or is still to end, and a fault is that of one of them
abbrev pub invariant-loop-place : goal.invariant-loop-place
invariant-loop-place g l = (l.place-iterator.count + length (into_iter_items l.place-iterator.iter) ≡ length l.fn.threads.items) × IfErr l.ended (IsOfficeFault (length l.fn.threads.items))
