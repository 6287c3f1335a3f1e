use Rattle.ctt_findings.proofs.PairLemmas.{conflicts_counted}
use Rattle.ctt_findings.proofs.PointLemmas.{lectures_counted, availability_counted, occupancy_counted, barred_counted, blocked_counted, capacity_counted, days_counted, compactness_counted, stability_counted}
use Rattle.ctt_findings.proofs.finding_laws.findings_are_counted.Goals as goal

pub returns : goal.returns
returns c i t h = record {
  lectures = lectures_counted i t;
  conflicts = conflicts_counted i t h;
  availability = availability_counted i t;
  occupancy = occupancy_counted i t h;
  barred = barred_counted i t;
  blocked = blocked_counted i t;
  capacity = capacity_counted i t;
  days = days_counted i t;
  compactness = compactness_counted i t h;
  stability = stability_counted i t;
}
