use Rattle.std.proofs.Common.{◌≡◌, ◌++◌, ◌∷◌, [], List, codes, refl}
use Rattle.ctt_rules.specs.Penalty.{total}
use Rattle.ctt_findings.specs.Lines.{Fact}
use Rattle.ctt_findings.specs.ReportText.{cost_facts, count_fact}
use Rattle.ctt_findings.proofs.ReportLemmas.{grows}
use Rattle.ctt_findings.proofs.report_facts.push_costs.Goals as goal

pub returns-clause-costs : goal.returns-clause-costs
unfolding cost_facts
returns-clause-costs c =
    let cost = c.args.cost.now in
    let first : List Fact = count_fact (codes "capacity") cost.capacity ∷ [] in
    let two : List Fact = first ++ count_fact (codes "days") cost.days ∷ [] in
    let three : List Fact = two ++ count_fact (codes "compactness") cost.compactness ∷ [] in
    let four : List Fact = three ++ count_fact (codes "stability") cost.stability ∷ [] in
    grows _ _ _ four (count_fact (codes "total") (total cost) ∷ []) (rw (c.number-5.ensures, c.total.ensures) at c.push-5.ensures.items)
    (grows _ _ _ three (count_fact (codes "stability") cost.stability ∷ []) (rw c.number-4.ensures at c.push-4.ensures.items)
    (grows _ _ _ two (count_fact (codes "compactness") cost.compactness ∷ []) (rw c.number-3.ensures at c.push-3.ensures.items)
    (grows _ _ _ first (count_fact (codes "days") cost.days ∷ []) (rw c.number-2.ensures at c.push-2.ensures.items)
    (rw c.number.ensures at c.push.ensures.items))))
