use Rattle.std.proofs.Common.{rules, ◌≡◌, ◌∙◌, ℕ, Bool, true, false, sym, ap}
use Rattle.ctt_problem.specs.Lists.{has}
use Rattle.ctt_problem.specs.Problem.{curriculum_count, members}
use Rattle.std.specs.List.{find}
use Rattle.std.specs.Option.{unwrap_or}
use Rattle.ctt_findings.proofs.ConflictLemmas.{found_here, goes_on}
use Rattle.ctt_findings.proofs.conflicts.common_curriculum.Goals as goal

pub returns-then-contains : goal.returns-then-contains
returns-then-contains c =
    let i = c.args.instance.now in
    let both : ℕ → Bool = λ q. has c.args.other (members i q) in
    let passes : both c.curriculum-item.result ≡ true = search rules in
    found_here both c.curricula_of-curriculum-items.result.now c.loop-curriculum.curriculum-index c.loop-curriculum.invariant c.curriculum-item.result c.loop-curriculum-test.true c.curriculum-item.is (curriculum_count i) passes
    ∙ ap (λ qs. unwrap_or (find both qs) (curriculum_count i)) c.curricula_of-curriculum-items.ensures.exact

pub loop-curriculum-preserved : goal.loop-curriculum-preserved
loop-curriculum-preserved c =
    let i = c.args.instance.now in
    let both : ℕ → Bool = λ q. has c.args.other (members i q) in
    let fails : both c.curriculum-item.result ≡ false = search rules in
    goes_on both c.curricula_of-curriculum-items.result.now c.loop-curriculum.curriculum-index c.loop-curriculum.invariant c.curriculum-item.result c.loop-curriculum-test.true c.curriculum-item.is fails
