use Rattle.std.proofs.Common.{◌≡◌, ◌++◌, map, string_bytes}
use Rattle.std.specs.Vec.Iter.{into_iter_items}
use Rattle.ctt_seat.specs.CrewText.{planners_text}
use Rattle.ctt_seat.proofs.closing.crew_report.Given as goal

-- the text so far, followed by the answers of the planners still to come, has the answers of all
abbrev pub invariant-loop-planner : goal.invariant-loop-planner
invariant-loop-planner l = string_bytes l.text ++ planners_text l.planner-iterator.count (map string_bytes (into_iter_items l.planner-iterator.iter)) ≡ planners_text 0 (map string_bytes l.fn.answers.items)
