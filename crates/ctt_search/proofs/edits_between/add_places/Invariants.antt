use Rattle.std.proofs.Common.{◌≡◌, ◌++◌, map, take}
use Rattle.ctt_search.specs.Between.{only_in, place_of}
use Rattle.ctt_search.proofs.edits_between.add_places.Given as goal

abbrev pub invariant-loop-lecture : goal.invariant-loop-lecture
invariant-loop-lecture g l = l.edits.items ≡ l.initial.edits.items ++ map place_of (only_in (take l.lecture-index l.lectures) (g.S.Rooms.list l.sheet))
