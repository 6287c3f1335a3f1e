use Rattle.std.proofs.Common.{◌≡◌, ◌++◌, flat_map, string_bytes, take}
use Rattle.std.specs.List.{filter}
use Rattle.ctt_views.specs.Items.{finding_item}
use Rattle.ctt_views.specs.Sections.{is_of_kind}
use Rattle.ctt_views.proofs.sections.push_items.Given as goal

abbrev pub invariant-loop-finding : goal.invariant-loop-finding
invariant-loop-finding l = string_bytes l.page ≡ string_bytes l.initial.page ++ flat_map (finding_item l.instance l.view l.days) (filter (is_of_kind l.kind) (take l.finding-index l.found))
