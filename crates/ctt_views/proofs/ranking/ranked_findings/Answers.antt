use Rattle.std.proofs.Common.{rules}
use Rattle.std.proofs.lemmas.List.Elements.{All-from_recursion, recursion_from_All}
use Rattle.std.proofs.lemmas.List.Sorted.{All-permutation, IsNonDecreasingBy-from_sort_by_key, answers_always}
use Rattle.ctt_findings.specs.Fitting.{FindingFits}
use Rattle.ctt_views.specs.Ranking.{rank}
use Rattle.ctt_views.proofs.ranking.ranked_findings.Goals as goal

pub returns-clause-ranked : goal.returns-clause-ranked
returns-clause-ranked c =
    record {
      all = rw c.in_ok-found.ensures.all at c.sort_by_key.ensures.permutation;
      falling = IsNonDecreasingBy-from_sort_by_key rank _ c.in_ok-sort_by_key.ensures.sorted (λ a r q k. search rules);
      stable = rw c.in_ok-found.ensures.all at (c.sort_by_key.ensures.stable rank (answers_always _ _ _ (λ f a r g h. search rules)));
    }

pub returns-clause-fit : goal.returns-clause-fit
returns-clause-fit c =
    let fits = FindingFits c.args.instance.now in
    recursion_from_All fits _ (All-permutation fits _ _ c.sort_by_key.ensures.permutation (All-from_recursion fits _ c.in_ok-found.ensures.fit))
