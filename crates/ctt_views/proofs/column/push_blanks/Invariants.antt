use Rattle.std.proofs.Common.{◌≡◌, ◌++◌, string_bytes}
use Rattle.ctt_views.specs.Week.{blanks}
use Rattle.ctt_views.proofs.column.push_blanks.Given as goal

abbrev pub invariant-loop : goal.invariant-loop
invariant-loop l = string_bytes l.line ≡ string_bytes l.initial.line ++ blanks l.counter
