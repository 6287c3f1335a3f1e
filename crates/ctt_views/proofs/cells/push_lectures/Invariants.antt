use Rattle.std.proofs.Common.{◌≡◌, ◌++◌, flat_map, string_bytes, take}
use Rattle.std.specs.List.{filter}
use Rattle.ctt_views.specs.Cells.{lecture_text}
use Rattle.ctt_views.specs.Grids.{is_of}
use Rattle.ctt_views.proofs.cells.push_lectures.Given as goal

abbrev pub invariant-loop-lecture : goal.invariant-loop-lecture
invariant-loop-lecture l = string_bytes l.page ≡ string_bytes l.initial.page ++ flat_map (lecture_text l.instance l.week l.view l.grid) (filter (is_of l.instance l.grid) (take l.lecture-index l.row))
