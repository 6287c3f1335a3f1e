use Rattle.std.proofs.Common.{◌≡◌, drop}
use Rattle.serde_json.specs.Data.{no_members}
use Rattle.serde_json.specs.View.{members_view}
use Rattle.ctt_findings.specs.Objects.{with_facts}
use Rattle.ctt_findings.proofs.objects.object.Given as goal

abbrev pub invariant-loop-fact : goal.invariant-loop-fact
invariant-loop-fact l = with_facts (drop l.fact-index l.facts) (members_view l.members.entries) ≡ with_facts l.facts no_members
