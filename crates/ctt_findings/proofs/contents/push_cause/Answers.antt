use Rattle.std.proofs.Common.{◌∷◌, ◌++◌, ◌∙◌, [], List, ℕ, ap, codes}
use Rattle.ctt_findings.specs.Lines.{fact, word}
use Rattle.ctt_findings.proofs.contents.push_cause.Goals as goal

pub returns-in-Curriculum : goal.returns-in-Curriculum
returns-in-Curriculum c = rw c.in-Curriculum.is (c.push_named-in-Curriculum.ensures
    ∙ ap (λ (name : List ℕ). c.args.facts.now.items ++ fact (codes "cause") (word (codes "curriculum")) ∷ fact (codes "name") (word name) ∷ []) c.curriculum_name.ensures)
