use Rattle.std.proofs.Common.{◌≡◌, drop}
use Rattle.ctt_findings.specs.Objects.{objects_of}
use Rattle.ctt_findings.proofs.ObjectLemmas.{items_before}
use Rattle.ctt_findings.proofs.objects.objects.Given as goal

abbrev pub invariant-loop-finding : goal.invariant-loop-finding
invariant-loop-finding l = items_before l.list.items (objects_of l.instance (drop l.finding-index l.found)) ≡ objects_of l.instance l.found
