use Rattle.std.proofs.Common.{rules}
use Rattle.std.proofs.lemmas.Cmp.{nat_cmp_total, nat_list_cmp_total, on_total, then_total}
use Rattle.std.proofs.lemmas.List.MinMax.{ranks_by}
use Rattle.std.proofs.lemmas.List.Sorted.{answers_always}
use Rattle.std.specs.Cmp.{IsStrictWeakOrder, IsTotalOrder}
use Rattle.std.specs.Ordering.{is_lt}
use Rattle.std.specs.String.{string_bytes}
use Rattle.ctt_commands.specs.RowOrder.{class_of, row_cmp, total_of, violations_of}
use Rattle.ctt_commands.specs.declared.row.Row.{Row}
use Rattle.ctt_commands.proofs.ranking.rank.Goals as goal

row_cmp_total : IsTotalOrder row_cmp
row_cmp_total = then_total (then_total (then_total (then_total (on_total (λ (row : Row). row.number) nat_cmp_total) (on_total (λ (row : Row). class_of row.judged) nat_cmp_total))
    (on_total (λ (row : Row). violations_of row.judged) nat_cmp_total)) (on_total (λ (row : Row). total_of row.judged) nat_cmp_total)) (on_total (λ (row : Row). string_bytes row.file) nat_list_cmp_total)

pub returns : goal.returns
returns c =
    let order : IsStrictWeakOrder (λ (x y : Row). is_lt (row_cmp x y)) = ranks_by row_cmp_total (λ (row : Row). row) in
    let calls = answers_always _ _ _ (λ f a r g h. search rules) in
    record {
      all = c.sort_by.ensures.permutation;
      ascending = c.in_ok-sort_by.ensures.sorted (λ (x y : Row). is_lt (row_cmp x y)) order calls;
      stable = c.sort_by.ensures.stable (λ (x y : Row). is_lt (row_cmp x y)) order calls;
    }
