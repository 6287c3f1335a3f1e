use Rattle.std.proofs.Common.{◌≡◌, ◌++◌, ◌∷◌, [], List, codes}
use Rattle.ctt_problem.specs.Problem.{has_barred, has_blocked}
use Rattle.ctt_findings.specs.Lines.{Fact}
use Rattle.ctt_findings.specs.ReportText.{count_fact, count_fact_if, hard_facts}
use Rattle.ctt_findings.proofs.ReportLemmas.{grows}
use Rattle.ctt_findings.proofs.report_facts.push_hard.Goals as goal

pub returns-clause-counts : goal.returns-clause-counts
unfolding hard_facts
returns-clause-counts c =
    let i = c.args.instance.now in
    let hard = c.args.hard.now in
    let first : List Fact = count_fact (codes "lectures") hard.lectures ∷ [] in
    let two : List Fact = first ++ count_fact (codes "conflicts") hard.conflicts ∷ [] in
    let three : List Fact = two ++ count_fact (codes "availability") hard.availability ∷ [] in
    let four : List Fact = three ++ count_fact (codes "occupancy") hard.occupancy ∷ [] in
    let barred : List Fact = count_fact_if (has_barred i) (codes "barred") hard.barred in
    let blocked : List Fact = count_fact_if (has_blocked i) (codes "blocked") hard.blocked in
    grows _ _ _ four (barred ++ blocked)
    (grows _ _ _ barred blocked (rw c.has_blocked.ensures at c.push_if-2.ensures.count) (rw c.has_barred.ensures at c.push_if.ensures.count))
    (grows _ _ _ three (count_fact (codes "occupancy") hard.occupancy ∷ []) (rw c.number-4.ensures at c.push-4.ensures.items)
    (grows _ _ _ two (count_fact (codes "availability") hard.availability ∷ []) (rw c.number-3.ensures at c.push-3.ensures.items)
    (grows _ _ _ first (count_fact (codes "conflicts") hard.conflicts ∷ []) (rw c.number-2.ensures at c.push-2.ensures.items)
    (rw c.number.ensures at c.push.ensures.items))))
