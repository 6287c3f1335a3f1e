use Rattle.std.proofs.Common.{◌≡◌, ◌++◌, ◌∷◌, [], List, codes}
use Rattle.ctt_findings.specs.Lines.{Fact, fact, word}
use Rattle.ctt_findings.specs.ReportText.{answer_word, cost_facts, hard_facts, report_facts}
use Rattle.ctt_findings.proofs.ReportLemmas.{grows}
use Rattle.ctt_findings.proofs.report_facts.report_facts.Goals as goal

pub returns : goal.returns
unfolding report_facts
returns c =
    let i = c.args.instance.now in
    let judged = c.args.assessment.now in
    let first : List Fact = fact (codes "instance") (word i.name) ∷ [] in
    let hard : List Fact = hard_facts i judged.hard in
    let costs : List Fact = cost_facts judged.cost in
    let lawful : List Fact = fact (codes "lawful") (word (answer_word judged.lawful)) ∷ [] in
    let complete : List Fact = fact (codes "complete") (word (answer_word judged.complete)) ∷ [] in
    grows [] _ _ first (hard ++ (costs ++ (lawful ++ complete)))
    (grows _ _ _ hard (costs ++ (lawful ++ complete))
    (grows _ _ _ costs (lawful ++ complete)
    (grows _ _ _ lawful complete (rw (c.text-3.ensures, c.answer-2.ensures) at c.push-3.ensures.items) (rw (c.text-2.ensures, c.answer.ensures) at c.push-2.ensures.items))
    c.push_costs.ensures.costs)
    c.push_hard.ensures.counts)
    (rw (c.text.ensures, c.name.ensures, c.new-facts.ensures) at c.push.ensures.items)
